-- The code of a message's arguments, in the plan's order, has an image.
use Rattle.std.proofs.Common.{◌≡◌, ℕ, ◌+◌, ◌*◌, ◌≤◌, Bool, true, false, ◌&&◌, cond, List, [], ◌∷◌, ◌++◌, length, map, refl, arith, length-append}
use Rattle.std.specs.Prelude.{nat_le, not, filter}
use Rattle.std.specs.List.{list_all}
use Rattle.std.proofs.lemmas.Bool.{and_parts, and_from, leb-true}
use Rattle.fl_interface.specs.Interface.{TheType, TheArgType, fixed, text, sized, TheMessage, TheInterface}
use Rattle.fl_interface.specs.Sizes.{size_of, align_of}
use Rattle.fl_interface.specs.Limits.{is_type_within, is_argument_within, are_arguments_within, is_message_within, are_messages_within, are_distinct, is_within_limits}
use Rattle.fl_interface.specs.Limits.{is_too_long}
use Rattle.fl_value_data.specs.declared.value.PlanNo.{PlanNo}
use Rattle.fl_value_data.specs.declared.value.PlanNo.TheVariants.{One, Two}
use Rattle.fl_value_data.specs.Plan.{is_fixed_at, is_dynamic, arranged}
use Rattle.fl_stub.specs.declared.op.Column.{Column}
use Rattle.fl_stub.specs.declared.op.Column.TheVariants.{Send, Receive}
use Rattle.fl_stub.specs.Structure.{one, Block, finished, next, is_within, last_op, block_ops}
use Rattle.fl_compile.proofs.Cases.{Place, by_standing, place_at, place_after}
use Rattle.fl_compile.specs.Compiled.{padding, text_op, type_then, start_at, start_then, counted_then, arguments_block, message_code}
use Rattle.fl_image.specs.Image.{Codes, codes_of, compiled, is_name, argument_has_short_enums, is_message_spellable, has_image}
use Rattle.fl_image.proofs.ReadBack.{AllAfter}
use Rattle.fl_image.proofs.CodeLaws.{IsSpelled, AreSpelled}
use Rattle.fl_interface.proofs.Aligned.{type_align}
use Rattle.fl_image.proofs.WholeLaws.{HasFields}
use Rattle.fl_image.proofs.Fitting.{within_type, small_type, image_has}
use Rattle.fl_image.proofs.Places.{length_of_map}
use Rattle.fl_image.proofs.Spelled.{BlockHas, each_append, each_after, last_has, align_has, each_has, text_has, length_has, loop_has, zeros_have, padding_small, type_has, how_many, type_count, zeros_count, loop_count}

-- an argument's type within the limits, with short enums
abbrev Plain : TheArgType → Type 0
Plain a = (is_argument_within a ≡ true) × (argument_has_short_enums a ≡ true)

abbrev ArePlain : List TheArgType → Type 0
ArePlain [] = Unit {0}
ArePlain (a ∷ args) = Plain a × ArePlain args

start_has : (column : Column) (standing : Place) (t : TheType) (rest : Block) → BlockHas column rest → BlockHas column (start_then column standing (align_of t) rest)
start_has column standing t rest h = by_standing (λ s. BlockHas column (start_then column s (align_of t) rest))
    (λ at. zeros_have column (padding at (align_of t)) rest (padding_small (align_of t) (type_align t) at) h) (align_has column, h) standing

counted_has : (column : Column) (most : ℕ) (element rest : Block) → is_within 4096 most ≡ true → BlockHas column element → BlockHas column rest → BlockHas column (counted_then most element rest)
counted_has column most element rest w h k = (align_has column, (length_has column most w, (each_has column, loop_has column element rest h k)))

arguments_have : (column : Column) (standing : Place) (args : List TheArgType) → ArePlain args → BlockHas column (arguments_block column standing args)
arguments_have column standing [] h = tt
arguments_have column standing (fixed t ∷ args) h =
    let w = within_type t h.0.0 in
    let rest = arguments_block column (place_at (start_at standing (align_of t) + size_of t)) args in
    start_has column standing t (type_then column t rest) (type_has column t rest w.0 h.0.1 (arguments_have column (place_at (start_at standing (align_of t) + size_of t)) args h.1))
arguments_have column standing (text most ∷ args) h =
    counted_has column most (next (one (text_op column)) finished) (arguments_block column place_after args) h.0.0 (text_has column, tt) (arguments_have column place_after args h.1)
arguments_have column standing (sized most t ∷ args) h =
    let a = and_parts (nat_le 1 most) (nat_le most 4096 && is_type_within t) h.0.0 in
    let b = and_parts (nat_le most 4096) (is_type_within t) a.1 in
    let w = within_type t b.1 in
    counted_has column most (type_then column t finished) (arguments_block column place_after args) (and_from (nat_le 1 most) (nat_le most 4096) a.0 b.0) (type_has column t finished w.0 h.0.1 tt) (arguments_have column place_after args h.1)

-- ---- how many

start_count : (column : Column) (standing : Place) (t : TheType) (rest : Block) → how_many column (start_then column standing (align_of t) rest) ≤ how_many column rest + 1
start_count column standing t rest = by_standing (λ s. how_many column (start_then column s (align_of t) rest) ≤ how_many column rest + 1)
    (λ at. zeros_count column (padding at (align_of t)) rest) (omega arith) standing

counted_count : (column : Column) (most : ℕ) (element rest : Block) → how_many column (counted_then most element rest) ≡ how_many column element + how_many column rest + 4
counted_count column most element rest = omega (arith, loop_count column element rest)

arguments_count : (column : Column) (standing : Place) (args : List TheArgType) → ArePlain args → how_many column (arguments_block column standing args) ≤ 139300 * length args
arguments_count column standing [] h = omega arith
arguments_count column standing (fixed t ∷ args) h =
    let w = within_type t h.0.0 in
    let after = place_at (start_at standing (align_of t) + size_of t) in
    let rest = arguments_block column after args in
    let first = type_count column 16 t rest w.0 w.1 in
    omega (arith, start_count column standing t (type_then column t rest), first, small_type t h.0.0, arguments_count column after args h.1)
arguments_count column standing (text most ∷ args) h =
    let rest = arguments_block column place_after args in
    omega (arith, counted_count column most (next (one (text_op column)) finished) rest, arguments_count column place_after args h.1)
arguments_count column standing (sized most t ∷ args) h =
    let a = and_parts (nat_le 1 most) (nat_le most 4096 && is_type_within t) h.0.0 in
    let b = and_parts (nat_le most 4096) (is_type_within t) a.1 in
    let w = within_type t b.1 in
    let rest = arguments_block column place_after args in
    let element = type_count column 16 t finished w.0 w.1 in
    omega (arith, counted_count column most (type_then column t finished) rest, element, small_type t b.1, arguments_count column place_after args h.1)

-- ---- the plan's order

plain_append : (xs ys : List TheArgType) → ArePlain xs → ArePlain ys → ArePlain (xs ++ ys)
plain_append [] ys h k = k
plain_append (x ∷ xs) ys h k = (h.0, plain_append xs ys h.1 k)

plain_step : (test : TheArgType → Bool) (x : TheArgType) (xs : List TheArgType) (b : Bool) → Plain x → ArePlain (filter test xs) → ArePlain (cond b (x ∷ filter test xs) (filter test xs))
plain_step test x xs true h k = (h, k)
plain_step test x xs false h k = k

plain_filter : (test : TheArgType → Bool) (xs : List TheArgType) → ArePlain xs → ArePlain (filter test xs)
plain_filter test [] h = tt
plain_filter test (x ∷ xs) h = plain_step test x xs (test x) h.0 (plain_filter test xs h.1)

filter_step : (test : TheArgType → Bool) (x : TheArgType) (xs : List TheArgType) (b : Bool) → length (filter test xs) ≤ length xs → length (cond b (x ∷ filter test xs) (filter test xs)) ≤ length (x ∷ xs)
filter_step test x xs true h = omega (arith, h)
filter_step test x xs false h = omega (arith, h)

filter_count : (test : TheArgType → Bool) (xs : List TheArgType) → length (filter test xs) ≤ length xs
filter_count test [] = omega arith
filter_count test (x ∷ xs) = filter_step test x xs (test x) (filter_count test xs)

plain_order : (plan : PlanNo) (args : List TheArgType) → ArePlain args → ArePlain (arranged (λ (t : TheArgType). t) plan args)
plain_order One args h = h
plain_order Two args h =
    let a = filter (λ a. is_fixed_at 8 a) args in
    let b = filter (λ a. is_fixed_at 4 a) args in
    let c = filter (λ a. is_fixed_at 2 a) args in
    let d = filter (λ a. is_fixed_at 1 a) args in
    let e = filter (λ a. is_dynamic a) args in
    plain_append (((a ++ b) ++ c) ++ d) e
    (plain_append ((a ++ b) ++ c) d
    (plain_append (a ++ b) c
    (plain_append a b (plain_filter (λ a. is_fixed_at 8 a) args h) (plain_filter (λ a. is_fixed_at 4 a) args h))
    (plain_filter (λ a. is_fixed_at 2 a) args h))
    (plain_filter (λ a. is_fixed_at 1 a) args h))
    (plain_filter (λ a. is_dynamic a) args h)

order_count : (plan : PlanNo) (args : List TheArgType) → length (arranged (λ (t : TheArgType). t) plan args) ≤ 5 * length args
order_count One args = omega arith
order_count Two args =
    let a = filter (λ a. is_fixed_at 8 a) args in
    let b = filter (λ a. is_fixed_at 4 a) args in
    let c = filter (λ a. is_fixed_at 2 a) args in
    let d = filter (λ a. is_fixed_at 1 a) args in
    let e = filter (λ a. is_dynamic a) args in
    let whole : length (arranged (λ (t : TheArgType). t) Two args) ≡ length ((((a ++ b) ++ c) ++ d) ++ e) = refl in
    omega (
      arith,
      whole,
      length-append (((a ++ b) ++ c) ++ d) e,
      length-append ((a ++ b) ++ c) d,
      length-append (a ++ b) c,
      length-append a b,
      filter_count (λ a. is_fixed_at 8 a) args,
      filter_count (λ a. is_fixed_at 4 a) args,
      filter_count (λ a. is_fixed_at 2 a) args,
      filter_count (λ a. is_fixed_at 1 a) args,
      filter_count (λ a. is_dynamic a) args,
    )

-- ---- messages and interfaces

are_plain : (args : List TheArgType) → are_arguments_within args ≡ true → list_all argument_has_short_enums args ≡ true → ArePlain args
are_plain [] w s = tt
are_plain (a ∷ args) w s =
    let p = and_parts (is_argument_within a) (are_arguments_within args) w in
    let q = and_parts (argument_has_short_enums a) (list_all argument_has_short_enums args) s in
    ((p.0, q.0), are_plain args p.1 q.1)

code_spelled : (column : Column) (plan : PlanNo) (m : TheMessage) → length m.args ≤ 32 → ArePlain m.args → IsSpelled column (message_code column plan m)
code_spelled column plan m few h =
    let args = arranged (λ (t : TheArgType). t) plan m.args in
    let plain = plain_order plan m.args h in
    let block = arguments_block column (place_at 0) args in
    let body = block_ops column block in
    let last = last_op column ∷ [] in
    let total : length (body ++ last) ≡ how_many column block + 1 = omega (arith, length-append body last) in
    let most = arguments_count column (place_at 0) args plain in
    let many = order_count plan m.args in
    (omega (arith, total, most, many, few), each_after column [] (body ++ last) (each_append column body last (arguments_have column (place_at 0) args plain) (last_has column, tt)))

message_spelled : (plan : PlanNo) (m : TheMessage) → is_message_within m ≡ true → is_message_spellable m ≡ true → AreSpelled (codes_of plan m)
message_spelled plan m within spelled =
    let a = and_parts (nat_le (length m.args) 32) (are_arguments_within m.args && not (is_too_long m)) within in
    let b = and_parts (are_arguments_within m.args) (not (is_too_long m)) a.1 in
    let c = and_parts (is_name m.name) (list_all argument_has_short_enums m.args) spelled in
    let few : length m.args ≤ 32 = leb-true (length m.args) 32 a.0 in
    let plain = are_plain m.args b.0 c.1 in
    (code_spelled Send plan m few plain, code_spelled Receive plan m few plain)

messages_spelled : (plan : PlanNo) (before : List Codes) (ms : List TheMessage) → are_messages_within ms ≡ true → list_all is_message_spellable ms ≡ true → AllAfter (λ before. AreSpelled) before (map (codes_of plan) ms)
messages_spelled plan before [] w s = tt
messages_spelled plan before (m ∷ ms) w s =
    let p = and_parts (is_message_within m) (are_messages_within ms) w in
    let q = and_parts (is_message_spellable m) (list_all is_message_spellable ms) s in
    (message_spelled plan m p.0 q.0, messages_spelled plan (before ++ codes_of plan m ∷ []) ms p.1 q.1)

-- what is spelled for an interface with an image may be read
pub compiled_has : (plan : PlanNo) (x : TheInterface) → has_image x ≡ true → HasFields (compiled plan x)
compiled_has plan x h =
    let a = and_parts (is_within_limits x) (is_name x.name && list_all is_message_spellable x.messages) h in
    let b = and_parts (is_name x.name) (list_all is_message_spellable x.messages) a.1 in
    let c = and_parts (nat_le (length x.messages) 256) (are_distinct (map (λ (m : TheMessage). m.name) x.messages) && are_messages_within x.messages) a.0 in
    let d = and_parts (are_distinct (map (λ (m : TheMessage). m.name) x.messages)) (are_messages_within x.messages) c.1 in
    record {
      interface = image_has x h;
      codes = (length_of_map (codes_of plan) x.messages, messages_spelled plan [] x.messages d.1 b.1);
    }
