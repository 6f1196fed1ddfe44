-- The lengths of a message's payloads and tapes, from what a plan keeps of it.
use Rattle.std.proofs.Common.{◌≡◌, ℕ, pos, zero, suc, ◌≤◌, true, false, Some, List, [], ◌∷◌, map, length, get_or, refl, sym, ◌∙◌, ap, subst, arith}
use Rattle.std.specs.Prelude.{slice_get}
use Rattle.std.proofs.lemmas.Bool.{and_parts}
use Rattle.std.proofs.lemmas.Option.{none-some}
use Rattle.std.proofs.lemmas.List.{length-replicate}
use Rattle.std.specs.List.{list_all, zip}
use Rattle.fl_interface.specs.Interface.{TheArgType, fixed, text, sized, TheMessage, TheInterface}
use Rattle.fl_interface.specs.Limits.{is_argument_within, are_arguments_within, is_message_within, are_messages_within, is_within_limits}
use Rattle.fl_value_data.specs.declared.value.PlanNo.{PlanNo}
use Rattle.fl_value_data.specs.Value.{Datum, number, TheCall}
use Rattle.fl_value_data.specs.Fits.{is_argument, are_arguments, fit_message}
use Rattle.fl_value_data.specs.Plan.{arranged}
use Rattle.fl_layout.specs.declared.extent.PlacedArg.{PlacedArg}
use Rattle.fl_layout.specs.declared.extent.Fill.{Fill}
use Rattle.fl_layout.specs.declared.extent.Fill.TheVariants.{Empty, Full}
use Rattle.fl_layout.specs.Extents.{Filled, extent_of, numbered, placing, placed_of, end_of_all, numbers_in_all, count_at, count_by, filled_up, filled_by}
use Rattle.fl_layout.specs.Layouts.{payload_length, tape_length, IsCallOf, IsLeast, IsGreatest}
use Rattle.fl_interface.proofs.Aligned.{align_one}
use Rattle.fl_value_data.specs.Tape.{Argument, kind}
use Rattle.fl_layout.proofs.Ends.{filled, is_good, arguments_end}
use Rattle.fl_layout.proofs.Order.{arranged_map, all_arranged, zip_numbered}
use Rattle.fl_layout.proofs.Witness.{shortest, longest, shortest_is, longest_is, are_of, count_many, some_value}
use Rattle.fl_layout.proofs.Bounds.{Rises, with_count, all_rise, none_rises, most_rises, good_zip, same_length}
use Rattle.fl_layout.proofs.Tapes.{tape_numbers, most_tape}

-- a message of an interface within the limits
pub message_within : (ms : List TheMessage) (k : ℕ) (m : TheMessage) → are_messages_within ms ≡ true → slice_get ms k ≡ Some m → is_message_within m ≡ true
message_within [] k m w e = absurd (none-some m e)
message_within (x ∷ ms) zero m w e = let e' : Some x ≡ Some m = e in let same : x ≡ m = cc in subst (λ (y : TheMessage). is_message_within y ≡ true) same (and_parts _ _ w).0
message_within (x ∷ ms) (suc k) m w e = message_within ms k m (and_parts (is_message_within x) (are_messages_within ms) w).1 e

-- a message's types within the limits, and a call's arguments
pub record Sent (plan : PlanNo) (i : TheInterface) (m : TheMessage) (c : TheCall) : Type 0 where
  pub within : are_arguments_within m.args ≡ true
  pub has : are_arguments m.args c.args ≡ true
  pub named : slice_get i.messages c.msg ≡ Some m

abbrev pub laid : PlanNo → TheMessage → List Datum → List Argument
laid plan m ds = arranged kind plan (zip m.args ds)

pub laid_good : (plan : PlanNo) (m : TheMessage) (ds : List Datum) → are_arguments_within m.args ≡ true → are_arguments m.args ds ≡ true
    → list_all is_good (laid plan m ds) ≡ true
laid_good plan m ds w h = all_arranged is_good kind plan (zip m.args ds) (good_zip m.args ds w h)

pub sent_length : (plan : PlanNo) (i : TheInterface) (m : TheMessage) (c : TheCall) → Sent plan i m c
    → payload_length plan i c ≡ end_of_all 0 1 (map filled (laid plan m c.args))
sent_length plan i m c s =
    rw s.named (arguments_end (laid plan m c.args) false [] (laid_good plan m c.args s.within s.has))

pub sent_tape : (plan : PlanNo) (i : TheInterface) (m : TheMessage) (c : TheCall) → Sent plan i m c
    → tape_length plan i c ≡ numbers_in_all (map filled (laid plan m c.args))
sent_tape plan i m c s =
    rw s.named (tape_numbers (laid plan m c.args) (laid_good plan m c.args s.within s.has))

pub map_map : {A B C : Type 0} (f : B → C) (g : A → B) (xs : List A) → map f (map g xs) ≡ map (λ x. f (g x)) xs
map_map f g [] = refl
map_map f g (x ∷ xs) = ap (λ ys. f (g x) ∷ ys) (map_map f g xs)

pub map_ext : {A B : Type 0} (xs : List A) (f g : A → B) → ((x : A) → f x ≡ g x) → map f xs ≡ map g xs
map_ext [] f g same = refl
map_ext (x ∷ xs) f g same = let rest = map_ext xs f g same in let head = same x in cc

-- a numbered type with the value of its number
abbrev pub value_of : List Datum → ℕ × TheArgType → Argument
value_of ds a = (a.1, get_or ds a.0 (number (pos 0)))

abbrev pub pair_with : (TheArgType → Datum) → TheArgType → Argument
pair_with value t = (t, value t)

-- the values beside their types, in the plan's order, are the placed arguments with the values of their numbers
pub by_number : (plan : PlanNo) (m : TheMessage) (ds : List Datum) (f : Argument → Filled) (g : PlacedArg → Filled) → length m.args ≡ length ds
    → ((a : ℕ × TheArgType) → f (value_of ds a) ≡ g (placing a))
    → map f (laid plan m ds) ≡ map g (placed_of plan m)
by_number plan m ds f g e same =
    let look = value_of ds in
    let order = arranged (λ (a : ℕ × TheArgType). a.1) plan (numbered m.args) in
    let zipped : zip m.args ds ≡ map look (numbered m.args) = zip_numbered (number (pos 0)) m.args [] ds 0 refl e in
    ap (λ xs. map f (arranged kind plan xs)) zipped
    ∙ ap (map f) (arranged_map look kind plan (numbered m.args))
    ∙ map_map f look order
    ∙ map_ext order (λ a. f (look a)) (λ a. g (placing a)) same
    ∙ sym (map_map g placing order)

pub length_by : (plan : PlanNo) (m : TheMessage) (ds : List Datum) → are_arguments m.args ds ≡ true
    → map filled (laid plan m ds) ≡ map (filled_by ds) (placed_of plan m)
length_by plan m ds h = by_number plan m ds filled (filled_by ds) (same_length m.args ds h) (λ a. refl)

pub up_by : (fill : Fill) (plan : PlanNo) (m : TheMessage) (ds : List Datum) → are_arguments m.args ds ≡ true
    → map (with_count (λ y. count_by fill (extent_of y.0))) (laid plan m ds) ≡ map (filled_up fill) (placed_of plan m)
up_by fill plan m ds h = by_number plan m ds (with_count (λ y. count_by fill (extent_of y.0))) (filled_up fill) (same_length m.args ds h) (λ a. refl)

abbrev pub limit : Fill → PlanNo → TheMessage → ℕ
limit fill plan m = end_of_all 0 1 (map (filled_up fill) (placed_of plan m))

-- the types of a message of an interface within the limits
pub types_within : (i : TheInterface) (msg : ℕ) (m : TheMessage) → is_within_limits i ≡ true → slice_get i.messages msg ≡ Some m → are_arguments_within m.args ≡ true
types_within i msg m w e =
    let within = and_parts _ _ (and_parts _ _ w).1 in
    let this = message_within i.messages msg m within.1 e in
    (and_parts _ _ (and_parts _ _ this).1).0

-- a call that fits is sent
pub sent_of : (plan : PlanNo) (i : TheInterface) (msg : ℕ) (m : TheMessage) (c : TheCall) → are_arguments_within m.args ≡ true
    → slice_get i.messages msg ≡ Some m → IsCallOf i msg c → Sent plan i m c
sent_of plan i msg m c w e s =
    let named : slice_get i.messages c.msg ≡ Some m = ap (slice_get i.messages) s.names ∙ e in
    let fits : fit_message (Some m) c.args ≡ true = sym (ap (λ o. fit_message o c.args) named) ∙ s.fits in
    record { within = w; has = fits; named = named }

pub is_sent : (plan : PlanNo) (i : TheInterface) (msg : ℕ) (m : TheMessage) (c : TheCall) → is_within_limits i ≡ true
    → slice_get i.messages msg ≡ Some m → IsCallOf i msg c → Sent plan i m c
is_sent plan i msg m c w e s = sent_of plan i msg m c (types_within i msg m w e) e s

-- a message's call with these values
abbrev pub call_with : ℕ → TheMessage → (TheArgType → Datum) → TheCall
call_with msg m value = record { msg = msg; args = map value m.args }

is_call : (i : TheInterface) (msg : ℕ) (m : TheMessage) (value : TheArgType → Datum)
    → ((t : TheArgType) → is_argument_within t ≡ true → is_argument t (value t) ≡ true)
    → are_arguments_within m.args ≡ true → slice_get i.messages msg ≡ Some m → IsCallOf i msg (call_with msg m value)
is_call i msg m value is w e =
    let has = are_of value is m.args w in
    record { fits = ap (λ o. fit_message o (map value m.args)) e ∙ has; names = refl }

shortest_count : (t : TheArgType) → filled (t, shortest t) ≡ with_count (λ y. count_by Empty (extent_of y.0)) (t, shortest t)
shortest_count (fixed t) = refl
shortest_count (text most) = refl
shortest_count (sized most t) = refl

longest_count : (t : TheArgType) → filled (t, longest t) ≡ with_count (λ y. count_by Full (extent_of y.0)) (t, longest t)
longest_count (fixed t) = refl
longest_count (text most) = ap (λ n. (extent_of (text most), n)) (length-replicate {A = ℕ} most 1)
longest_count (sized most t) = ap (λ n. (extent_of (sized most t), n)) (count_many most (some_value t))

zip_with : (value : TheArgType → Datum) (ts : List TheArgType) → zip ts (map value ts) ≡ map (pair_with value) ts
zip_with value [] = refl
zip_with value (t ∷ ts) = ap (λ xs. (t, value t) ∷ xs) (zip_with value ts)

-- the lengths of a call whose values are filled up
pub filled_with : (fill : Fill) (value : TheArgType → Datum) (plan : PlanNo) (m : TheMessage)
    → ((t : TheArgType) → filled (t, value t) ≡ with_count (λ y. count_by fill (extent_of y.0)) (t, value t))
    → map filled (laid plan m (map value m.args)) ≡ map (with_count (λ y. count_by fill (extent_of y.0))) (laid plan m (map value m.args))
filled_with fill value plan m same =
    let g = pair_with value in
    let order = arranged (λ (t : TheArgType). t) plan m.args in
    let count = with_count (λ y. count_by fill (extent_of y.0)) in
    let in_map : laid plan m (map value m.args) ≡ map g order
    = ap (arranged kind plan) (zip_with value m.args) ∙ arranged_map g kind plan m.args in
    ap (map filled) in_map ∙ map_map filled g order ∙ map_ext order (λ t. filled (g t)) (λ t. count (g t)) same
    ∙ sym (map_map count g order) ∙ ap (map count) (sym in_map)

none_more : (y : Argument) → is_good y ≡ true → Rises y.0 (count_by Empty (extent_of y.0)) (count_at (extent_of y.0) y.1)
none_more y h = none_rises y.0 (count_at (extent_of y.0) y.1)

most_more : (y : Argument) → is_good y ≡ true → Rises y.0 (count_at (extent_of y.0) y.1) (count_by Full (extent_of y.0))
most_more y h = most_rises y.0 y.1 (and_parts (is_argument_within y.0) (is_argument y.0 y.1) h).1

pub least_is : (plan : PlanNo) (i : TheInterface) (msg : ℕ) (m : TheMessage) → is_within_limits i ≡ true → slice_get i.messages msg ≡ Some m
    → IsLeast (payload_length plan i) i msg (limit Empty plan m)
least_is plan i msg m w e =
    let count = λ (y : Argument). count_by Empty (extent_of y.0) in
    let call = call_with msg m shortest in
    let fits = is_call i msg m shortest shortest_is (types_within i msg m w e) e in
    let sent = is_sent plan i msg m call w e fits in
    record {
      bounds = λ c s.
          let to = is_sent plan i msg m c w e s in
          let ys = laid plan m c.args in
          let rise = all_rise ys count (λ y. count_at (extent_of y.0) y.1) none_more (laid_good plan m c.args to.within to.has) 0 0 1 align_one (omega arith) in
          subst (λ (n : ℕ). limit Empty plan m ≤ n) (sym (sent_length plan i m c to))
          (subst (λ (xs : List Filled). end_of_all 0 1 xs ≤ end_of_all 0 1 (map filled ys)) (up_by Empty plan m c.args to.has) rise);
      call = call;
      fits = fits;
      reached = sent_length plan i m call sent ∙ ap (end_of_all 0 1) (filled_with Empty shortest plan m shortest_count ∙ up_by Empty plan m call.args sent.has);
    }

-- of any interface, if the message's types are within the limits
pub greatest_of : (plan : PlanNo) (i : TheInterface) (msg : ℕ) (m : TheMessage) → are_arguments_within m.args ≡ true → slice_get i.messages msg ≡ Some m
    → IsGreatest (payload_length plan i) i msg (limit Full plan m)
greatest_of plan i msg m w e =
    let count = λ (y : Argument). count_by Full (extent_of y.0) in
    let call = call_with msg m longest in
    let fits = is_call i msg m longest longest_is w e in
    let sent = sent_of plan i msg m call w e fits in
    record {
      bounds = λ c s.
          let to = sent_of plan i msg m c w e s in
          let ys = laid plan m c.args in
          let rise = all_rise ys (λ y. count_at (extent_of y.0) y.1) count most_more (laid_good plan m c.args to.within to.has) 0 0 1 align_one (omega arith) in
          subst (λ (n : ℕ). n ≤ limit Full plan m) (sym (sent_length plan i m c to))
          (subst (λ (xs : List Filled). end_of_all 0 1 (map filled ys) ≤ end_of_all 0 1 xs) (up_by Full plan m c.args to.has) rise);
      call = call;
      fits = fits;
      reached = sent_length plan i m call sent ∙ ap (end_of_all 0 1) (filled_with Full longest plan m longest_count ∙ up_by Full plan m call.args sent.has);
    }

pub greatest_is : (plan : PlanNo) (i : TheInterface) (msg : ℕ) (m : TheMessage) → is_within_limits i ≡ true → slice_get i.messages msg ≡ Some m
    → IsGreatest (payload_length plan i) i msg (limit Full plan m)
greatest_is plan i msg m w e = greatest_of plan i msg m (types_within i msg m w e) e

pub capacity_is : (plan : PlanNo) (i : TheInterface) (msg : ℕ) (m : TheMessage) → is_within_limits i ≡ true → slice_get i.messages msg ≡ Some m
    → IsGreatest (tape_length plan i) i msg (numbers_in_all (map (filled_up Full) (placed_of plan m)))
capacity_is plan i msg m w e =
    let call = call_with msg m longest in
    let fits = is_call i msg m longest longest_is (types_within i msg m w e) e in
    let sent = is_sent plan i msg m call w e fits in
    record {
      bounds = λ c s.
          let to = is_sent plan i msg m c w e s in
          let ys = laid plan m c.args in
          let rise = most_tape ys (laid_good plan m c.args to.within to.has) in
          subst (λ (n : ℕ). n ≤ numbers_in_all (map (filled_up Full) (placed_of plan m))) (sym (sent_tape plan i m c to))
          (subst (λ (xs : List Filled). numbers_in_all (map filled ys) ≤ numbers_in_all xs) (up_by Full plan m c.args to.has) rise);
      call = call;
      fits = fits;
      reached = sent_tape plan i m call sent ∙ ap numbers_in_all (filled_with Full longest plan m longest_count ∙ up_by Full plan m call.args sent.has);
    }
