-- The compiler's code is code: its operands are in range, and its loops go at most 8 deep.
use Rattle.std.proofs.Common.{◌≡◌, ℕ, zero, suc, ◌+◌, ◌^◌, ◌≤◌, Bool, true, false, cond, eqb, leb, ltb, ◌&&◌, ◌||◌, not, List, [], ◌∷◌, length, refl, sym, subst, arith}
use Rattle.std.specs.Prelude.{slice_get, Some}
use Rattle.std.specs.List.{list_all}
use Rattle.std.proofs.lemmas.Bool.{and_parts, and_from, le-leb, leb-true, ltb-false, false≢true}
use Rattle.fl_interface.specs.declared.interface.Scalar.{Scalar}
use Rattle.fl_interface.specs.declared.interface.Scalar.TheVariants.{Uint8, Int8, Bool as BoolType, Char, Uint16, Int16, Uint32, Int32, Iref, Uint64, Int64, Uintptr, Intptr, Size, Errval}
use Rattle.fl_interface.specs.Interface.{TheType, scalar, enumeration, structure, array, TheTypes, no_more, field, TheArgType, fixed, text, sized, TheMessage, TheInterface}
use Rattle.fl_interface.specs.Sizes.{round_up, scalar_size, size_of, align_of, greatest_align, IsAlign}
use Rattle.fl_interface.specs.Depth.{array_depth_of, deepest_array, depth_of}
use Rattle.fl_interface.specs.Limits.{is_well_made, are_well_made, is_type_within, is_argument_within, are_arguments_within, is_message_within, are_messages_within, is_within_limits}
use Rattle.fl_value_data.specs.declared.value.PlanNo.{PlanNo}
use Rattle.fl_interface.specs.Counts.{words_fit, all_words_fit, argument_words_fit, interface_words_fit}
use Rattle.fl_interface.proofs.Aligned.{by_align, scalar_align, type_align, types_align}
use Rattle.fl_stub.specs.declared.op.Column.{Column}
use Rattle.fl_stub.specs.declared.op.Column.TheVariants.{Send, Receive}
use Rattle.fl_stub.specs.Structure.{Block, finished, next, one, is_width, is_within, is_step, block_fits, block_depth, IsCode}
use Rattle.fl_compile.specs.declared.arguments.ArgOffset.{ArgOffset}
use Rattle.fl_compile.specs.declared.arguments.ArgOffset.TheVariants.{At, AfterDynamic}
use Rattle.fl_compile.specs.Compiled.{padding, scalar_op, enum_op, text_op, pad_op, zeros_then, type_then, fields_then, start_at, start_then, counted_then, arguments_block, in_order, message_block, message_code}
use Rattle.fl_compile.proofs.Ordering.{all_arranged}

-- ---- operands

padding_small : (a at : ℕ) → IsAlign a → padding at a ≤ 7
padding_small a at is = by_align (λ a. padding at a ≤ 7) (omega arith) (omega arith) (omega arith) (omega arith) a is

within_seven : (count : ℕ) → eqb count 0 ≡ false → count ≤ 7 → is_within 7 count ≡ true
within_seven zero e few = absurd (false≢true (sym e))
within_seven (suc count) e few = and_from (leb 1 (suc count)) (leb (suc count) 7) (le-leb 1 (suc count) (omega arith)) (le-leb (suc count) 7 few)

zeros_by : (column : Column) (count : ℕ) (rest : Block) (none : Bool) → eqb count 0 ≡ none → count ≤ 7 → block_fits column rest ≡ true
    → block_fits column (cond none rest (next (one (pad_op column count)) rest)) ≡ true
zeros_by column count rest true e few h = h
zeros_by Send count rest false e few h = and_from (is_within 7 count) (block_fits Send rest) (within_seven count e few) h
zeros_by Receive count rest false e few h = and_from (is_within 7 count) (block_fits Receive rest) (within_seven count e few) h

zeros_fit : (column : Column) (count : ℕ) (rest : Block) → count ≤ 7 → block_fits column rest ≡ true → block_fits column (zeros_then column count rest) ≡ true
zeros_fit column count rest few h = zeros_by column count rest (eqb count 0) refl few h

scalar_fits : (column : Column) (s : Scalar) → is_step column (scalar_op column s) ≡ true
scalar_fits Send s = by_align (λ n. is_width n ≡ true) refl refl refl refl (scalar_size s) (scalar_align s)
scalar_fits Receive Uint8 = refl
scalar_fits Receive Int8 = refl
scalar_fits Receive BoolType = refl
scalar_fits Receive Char = refl
scalar_fits Receive Uint16 = refl
scalar_fits Receive Int16 = refl
scalar_fits Receive Uint32 = refl
scalar_fits Receive Int32 = refl
scalar_fits Receive Iref = refl
scalar_fits Receive Uint64 = refl
scalar_fits Receive Int64 = refl
scalar_fits Receive Uintptr = refl
scalar_fits Receive Intptr = refl
scalar_fits Receive Size = refl
scalar_fits Receive Errval = refl

enum_fits : (column : Column) (n : ℕ) → leb 1 n ≡ true → leb n (2 ^ 32) ≡ true → is_step column (enum_op column n) ≡ true
enum_fits Send n some few = refl
enum_fits Receive n some few = and_from (leb 1 n) (leb n 4294967296) some few

mutual
  type_fits : (column : Column) (t : TheType) (rest : Block) → is_well_made t ≡ true → words_fit t ≡ true → block_fits column rest ≡ true
      → block_fits column (type_then column t rest) ≡ true
  type_fits column (scalar s) rest w f h = and_from (is_step column (scalar_op column s)) (block_fits column rest) (scalar_fits column s) h
  type_fits column (enumeration n) rest w f h = and_from (is_step column (enum_op column n)) (block_fits column rest) (enum_fits column n w f) h
  type_fits column (structure ts) rest w f h =
      fields_fit column (greatest_align ts) 0 ts rest (types_align ts) ((and_parts _ _ ((and_parts _ _ w).1)).1) f h
  type_fits column (array n t) rest w f h =
      let made = and_parts _ _ w in
      let few = and_parts _ _ (made.1) in
      let body = type_then column t finished in
      and_from (is_within 1024 n && block_fits column body) (block_fits column rest)
      (and_from (is_within 1024 n) (block_fits column body) (and_from (leb 1 n) (leb n 1024) (made.0) (few.0)) (type_fits column t finished (few.1) f refl)) h

  fields_fit : (column : Column) (align at : ℕ) (ts : TheTypes) (rest : Block) → IsAlign align → are_well_made ts ≡ true → all_words_fit ts ≡ true → block_fits column rest ≡ true
      → block_fits column (fields_then column align at ts rest) ≡ true
  fields_fit column align at no_more rest is w f h = zeros_fit column (padding at align) rest (padding_small align at is) h
  fields_fit column align at (field t ts) rest is w f h =
      let made = and_parts _ _ w in
      let few = and_parts _ _ f in
      let after = round_up at (align_of t) + size_of t in
      zeros_fit column (padding at (align_of t)) (type_then column t (fields_then column align after ts rest)) (padding_small (align_of t) at (type_align t))
      (type_fits column t (fields_then column align after ts rest) (made.0) (few.0) (fields_fit column align after ts rest is (made.1) (few.1) h))

-- ---- depths

zeros_depth : (column : Column) (count : ℕ) (rest : Block) (k : ℕ) → block_depth rest ≤ k → block_depth (zeros_then column count rest) ≤ k
zeros_depth column count rest k h =
    elim (eqb count 0) as (λ v. block_depth (cond v rest (next (one (pad_op column count)) rest)) ≤ k) [ true ↦ h | false ↦ omega (arith, h) ]

mutual
  type_depth : (column : Column) (t : TheType) (rest : Block) (k : ℕ) → array_depth_of t ≤ k → block_depth rest ≤ k → block_depth (type_then column t rest) ≤ k
  type_depth column (scalar s) rest k d h = omega (arith, h)
  type_depth column (enumeration n) rest k d h = omega (arith, h)
  type_depth column (structure ts) rest k d h = fields_depth column (greatest_align ts) 0 ts rest k d h
  type_depth column (array n t) rest k d h =
      let inner : block_depth (type_then column t finished) ≤ array_depth_of t = type_depth column t finished (array_depth_of t) (omega arith) (omega arith) in
      omega (arith, inner, d, h)

  fields_depth : (column : Column) (align at : ℕ) (ts : TheTypes) (rest : Block) (k : ℕ) → deepest_array ts ≤ k → block_depth rest ≤ k
      → block_depth (fields_then column align at ts rest) ≤ k
  fields_depth column align at no_more rest k d h = zeros_depth column (padding at align) rest k h
  fields_depth column align at (field t ts) rest k d h =
      let after = round_up at (align_of t) + size_of t in
      zeros_depth column (padding at (align_of t)) (type_then column t (fields_then column align after ts rest)) k
      (type_depth column t (fields_then column align after ts rest) k (omega (arith, d)) (fields_depth column align after ts rest k (omega (arith, d)) h))

-- ---- arguments

last_false : (a b c : Bool) → not (a || (b || c)) ≡ true → c ≡ false
last_false true b c h = absurd (false≢true h)
last_false false true c h = absurd (false≢true h)
last_false false false true h = absurd (false≢true h)
last_false false false false h = refl

arrays_few : (t : TheType) → is_type_within t ≡ true → array_depth_of t ≤ 7
arrays_few t h = ltb-false 7 (array_depth_of t) (last_false (ltb 4096 (size_of t)) (ltb 16 (depth_of t)) (ltb 7 (array_depth_of t)) (and_parts _ _ h).1)

start_fits : (column : Column) (standing : ArgOffset) (align : ℕ) (rest : Block) → IsAlign align → block_fits column rest ≡ true → block_fits column (start_then column standing align rest) ≡ true
start_fits column (At at) align rest is h = zeros_fit column (padding at align) rest (padding_small align at is) h
start_fits Send AfterDynamic align rest is h = h
start_fits Receive AfterDynamic align rest is h = h

start_depth : (column : Column) (standing : ArgOffset) (align : ℕ) (rest : Block) (k : ℕ) → block_depth rest ≤ k → block_depth (start_then column standing align rest) ≤ k
start_depth column (At at) align rest k h = zeros_depth column (padding at align) rest k h
start_depth column AfterDynamic align rest k h = omega (arith, h)

counted_fits : (column : Column) (most : ℕ) (body rest : Block) → is_within 4096 most ≡ true → block_fits column body ≡ true → block_fits column rest ≡ true
    → block_fits column (counted_then most body rest) ≡ true
counted_fits Send most body rest w b h = and_from _ (block_fits Send rest) (and_from (is_within 4096 most) (block_fits Send body) w b) h
counted_fits Receive most body rest w b h = and_from _ (block_fits Receive rest) (and_from (is_within 4096 most) (block_fits Receive body) w b) h

text_fits : (column : Column) → block_fits column (next (one (text_op column)) finished) ≡ true
text_fits Send = refl
text_fits Receive = refl

-- an argument within the limits
abbrev is_limited : TheArgType → Bool
is_limited t = is_argument_within t && argument_words_fit t

pub arguments_fit : (column : Column) (standing : ArgOffset) (ts : List TheArgType) → list_all is_limited ts ≡ true → block_fits column (arguments_block column standing ts) ≡ true
arguments_fit column standing [] h = refl
arguments_fit column standing (fixed t ∷ ts) h =
    let parts = and_parts (is_limited (fixed t)) (list_all is_limited ts) h in
    let own = and_parts (is_type_within t) (words_fit t) parts.0 in
    let rest = arguments_block column (At (start_at standing (align_of t) + size_of t)) ts in
    start_fits column standing (align_of t) (type_then column t rest) (type_align t)
    (type_fits column t rest (and_parts _ _ (own.0)).0 own.1 (arguments_fit column (At (start_at standing (align_of t) + size_of t)) ts parts.1))
arguments_fit column standing (text most ∷ ts) h =
    let parts = and_parts (is_limited (text most)) (list_all is_limited ts) h in
    let own = and_parts (is_argument_within (text most)) (argument_words_fit (text most)) parts.0 in
    counted_fits column most (next (one (text_op column)) finished) (arguments_block column AfterDynamic ts) own.0 (text_fits column) (arguments_fit column AfterDynamic ts parts.1)
arguments_fit column standing (sized most t ∷ ts) h =
    let parts = and_parts (is_limited (sized most t)) (list_all is_limited ts) h in
    let own = and_parts (is_argument_within (sized most t)) (argument_words_fit (sized most t)) parts.0 in
    let within = and_parts _ _ (own.0) in
    let few = and_parts _ _ (within.1) in
    let words = and_parts _ _ (own.1) in
    counted_fits column most (type_then column t finished) (arguments_block column AfterDynamic ts) (and_from (leb 1 most) (leb most 4096) (within.0) (few.0))
    (type_fits column t finished (and_parts _ _ (few.1)).0 (words.1) refl) (arguments_fit column AfterDynamic ts parts.1)

pub arguments_depth : (column : Column) (standing : ArgOffset) (ts : List TheArgType) → list_all is_limited ts ≡ true → block_depth (arguments_block column standing ts) ≤ 8
arguments_depth column standing [] h = omega arith
arguments_depth column standing (fixed t ∷ ts) h =
    let parts = and_parts (is_limited (fixed t)) (list_all is_limited ts) h in
    let own = and_parts (is_type_within t) (words_fit t) parts.0 in
    let after = At (start_at standing (align_of t) + size_of t) in
    let rest = arguments_block column after ts in
    start_depth column standing (align_of t) (type_then column t rest) 8
    (type_depth column t rest 8 (omega (arith, arrays_few t own.0)) (arguments_depth column after ts parts.1))
arguments_depth column standing (text most ∷ ts) h =
    let parts = and_parts (is_limited (text most)) (list_all is_limited ts) h in
    omega (arith, arguments_depth column AfterDynamic ts parts.1)
arguments_depth column standing (sized most t ∷ ts) h =
    let parts = and_parts (is_limited (sized most t)) (list_all is_limited ts) h in
    let own = and_parts (is_argument_within (sized most t)) (argument_words_fit (sized most t)) parts.0 in
    let within = and_parts (leb 1 most) (leb most 4096 && is_type_within t) (own.0) in
    let few = and_parts (leb most 4096) (is_type_within t) (within.1) in
    let element : block_depth (type_then column t finished) ≤ 7 = type_depth column t finished 7 (arrays_few t (few.1)) (omega arith) in
    omega (arith, arguments_depth column AfterDynamic ts parts.1, element)

-- ---- messages

pub all_within : (ts : List TheArgType) → are_arguments_within ts ≡ true → list_all is_argument_within ts ≡ true
all_within [] h = refl
all_within (t ∷ ts) h = let parts = and_parts (is_argument_within t) (are_arguments_within ts) h in and_from _ _ parts.0 (all_within ts parts.1)

pub within_all : (ts : List TheArgType) → list_all is_argument_within ts ≡ true → are_arguments_within ts ≡ true
within_all [] h = refl
within_all (t ∷ ts) h = let parts = and_parts (is_argument_within t) (list_all is_argument_within ts) h in and_from _ _ parts.0 (within_all ts parts.1)

all_limited : (ts : List TheArgType) → are_arguments_within ts ≡ true → list_all argument_words_fit ts ≡ true → list_all is_limited ts ≡ true
all_limited [] w f = refl
all_limited (t ∷ ts) w f =
    let within = and_parts (is_argument_within t) (are_arguments_within ts) w in
    let few = and_parts (argument_words_fit t) (list_all argument_words_fit ts) f in
    and_from _ _ (and_from _ _ within.0 few.0) (all_limited ts within.1 few.1)

pub message_args : (m : TheMessage) → is_message_within m ≡ true → (length m.args ≤ 32) × (are_arguments_within m.args ≡ true)
message_args m h = let parts = and_parts _ _ h in (leb-true (length m.args) 32 (parts.0), (and_parts _ _ (parts.1)).0)

-- the compiler's code of a message within the limits is code
pub message_is_code : (column : Column) (plan : PlanNo) (m : TheMessage) → is_message_within m ≡ true → list_all argument_words_fit m.args ≡ true
    → IsCode column (message_code column plan m) (message_block column plan m)
message_is_code column plan m w f =
    let limited : list_all is_limited (in_order plan m) ≡ true
    = all_arranged is_limited (λ (t : TheArgType). t) plan m.args (all_limited m.args (message_args m w).1 f) in
    record {
      ops_are = refl;
      fits = arguments_fit column (At 0) (in_order plan m) limited;
      depth = arguments_depth column (At 0) (in_order plan m) limited;
    }

-- ---- interfaces

messages_within : (ms : List TheMessage) (k : ℕ) (m : TheMessage) → are_messages_within ms ≡ true → slice_get ms k ≡ Some m → is_message_within m ≡ true
messages_within [] k m h e = absurd (cc)
messages_within (n ∷ ms) zero m h e =
    let same : n ≡ m = cc in
    subst (λ (x : TheMessage). is_message_within x ≡ true) same (and_parts (is_message_within n) (are_messages_within ms) h).0
messages_within (n ∷ ms) (suc k) m h e = messages_within ms k m (and_parts (is_message_within n) (are_messages_within ms) h).1 e

pub message_within : (i : TheInterface) (k : ℕ) (m : TheMessage) → is_within_limits i ≡ true → slice_get i.messages k ≡ Some m → is_message_within m ≡ true
message_within i k m h e = messages_within i.messages k m (and_parts _ _ (and_parts _ _ h).1).1 e

words_in : (ms : List TheMessage) (k : ℕ) (m : TheMessage) → list_all (λ (x : TheMessage). list_all argument_words_fit x.args) ms ≡ true → slice_get ms k ≡ Some m
    → list_all argument_words_fit m.args ≡ true
words_in [] k m h e = absurd (cc)
words_in (n ∷ ms) zero m h e =
    let same : n ≡ m = cc in
    subst (λ (x : TheMessage). list_all argument_words_fit x.args ≡ true) same (and_parts (list_all argument_words_fit n.args) (list_all (λ (x : TheMessage). list_all argument_words_fit x.args) ms) h).0
words_in (n ∷ ms) (suc k) m h e =
    words_in ms k m (and_parts (list_all argument_words_fit n.args) (list_all (λ (x : TheMessage). list_all argument_words_fit x.args) ms) h).1 e

pub message_words : (i : TheInterface) (k : ℕ) (m : TheMessage) → interface_words_fit i ≡ true → slice_get i.messages k ≡ Some m → list_all argument_words_fit m.args ≡ true
message_words i k m h e = words_in i.messages k m h e
