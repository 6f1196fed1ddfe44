-- A call from the values that stand on its tape, and that no other call has that tape.
use Rattle.std.proofs.Common.{◌≡◌, ℕ, zero, suc, ◌^◌, Bool, true, List, [], ◌∷◌, ◌++◌, length, map, get_or, ltb, ◌<◌, refl, sym, ◌∙◌, ap, subst, arith, append_assoc}
use Rattle.std.specs.Prelude.{Option, Some, None, slice_get}
use Rattle.std.specs.List.{zip, flat_map, list_all, insert}
use Rattle.std.specs.Cmp.{first_so, second_so}
use Rattle.std.proofs.lemmas.Bool.{false≢true, eqb-true, leb-true, ltb-true}
use Rattle.std.proofs.lemmas.List.{append-nil}
use Rattle.fl_interface.specs.Interface.{TheType, scalar, enumeration, structure, array, TheTypes, no_more, field, TheArgType, fixed, text, sized, TheMessage, TheInterface, message_of}
use Rattle.fl_interface.specs.declared.interface.Message.{Message}
use Rattle.fl_value_data.specs.declared.value.PlanNo.{PlanNo}
use Rattle.fl_value_data.specs.declared.value.PlanNo.TheVariants.{One, Two}
use Rattle.fl_value_data.specs.Value.{Datum, number, string, elements, fields, Data, nothing_more, also, TheCall}
use Rattle.fl_value_data.specs.Fits.{has_type, have_types, all_have_type, count_of, is_argument, are_arguments, fit_message, scalar_bits, least_above, how_many_below}
use Rattle.fl_value_data.specs.Plan.{arranged}
use Rattle.fl_interface.specs.Counts.{words_fit, all_words_fit, argument_words_fit, interface_words_fit}
use Rattle.fl_value_data.specs.Tape.{value_tape, fields_tape, elements_tape, argument_tape, Argument, kind, tape_of_argument, types_of}
use Rattle.fl_value_data.specs.Taken.{ArgumentAt, InTurn, TheOne, NoneOf, HasTape}
use Rattle.fl_value_data.proofs.Bits.{raw_told, scalar_range, enum_range, scalar_room}
use Rattle.fl_value_data.proofs.Turns.{split_same}
use Rattle.fl_value_data.proofs.Ranked.{rearranged, before, prefix, seconds_arranged, firsts_arranged, types_arranged, rearranged_told, rearranged_typed, typed_again, length_rearranged}

-- ---- arguments one after another

abbrev pub tape_with : List TheArgType → List Datum → List ℕ
tape_with ts ds = flat_map tape_of_argument (zip ts ds)

arguments_typed : (ts : List TheArgType) (tape : List ℕ) (ds : List Datum) (rest : List ℕ) → InTurn ArgumentAt ts tape ds rest → are_arguments ts ds ≡ true
arguments_typed [] tape [] rest h = refl
arguments_typed [] tape (d ∷ ds) rest h = absurd h
arguments_typed (t ∷ ts) tape [] rest h = absurd h
arguments_typed (t ∷ ts) tape (d ∷ ds) rest h = rw h.1.typed (arguments_typed ts h.0 ds rest h.2)

arguments_prefix : (ts : List TheArgType) (tape : List ℕ) (ds : List Datum) (rest : List ℕ) → InTurn ArgumentAt ts tape ds rest → tape ≡ tape_with ts ds ++ rest
arguments_prefix [] tape [] rest h = h
arguments_prefix [] tape (d ∷ ds) rest h = absurd h
arguments_prefix (t ∷ ts) tape [] rest h = absurd h
arguments_prefix (t ∷ ts) tape (d ∷ ds) rest h =
    h.1.prefix ∙ ap (λ (l : List ℕ). argument_tape t d ++ l) (arguments_prefix ts h.0 ds rest h.2)
    ∙ sym (append_assoc (argument_tape t d) (tape_with ts ds) rest)

arguments_stand : (ts : List TheArgType) (tape : List ℕ) (ds : List Datum) (rest : List ℕ) → are_arguments ts ds ≡ true → tape ≡ tape_with ts ds ++ rest → InTurn ArgumentAt ts tape ds rest
arguments_stand [] tape [] rest h e = e
arguments_stand [] tape (d ∷ ds) rest h e = absurd (false≢true h)
arguments_stand (t ∷ ts) tape [] rest h e = absurd (false≢true h)
arguments_stand (t ∷ ts) tape (d ∷ ds) rest h e =
    let after = tape_with ts ds ++ rest in (
      after,
      record { typed = first_so (is_argument t d) _ h; prefix = e ∙ append_assoc (argument_tape t d) (tape_with ts ds) rest },
      arguments_stand ts after ds rest (second_so (is_argument t d) _ h) refl,
    )

pub as_many : (ts : List TheArgType) (tape : List ℕ) (ds : List Datum) (rest : List ℕ) → InTurn ArgumentAt ts tape ds rest → length ds ≡ length ts
as_many [] tape [] rest h = refl
as_many [] tape (d ∷ ds) rest h = absurd h
as_many (t ∷ ts) tape [] rest h = absurd h
as_many (t ∷ ts) tape (d ∷ ds) rest h = ap (λ (n : ℕ). suc n) (as_many ts h.0 ds rest h.2)

arguments_many : (ts : List TheArgType) (ds : List Datum) → are_arguments ts ds ≡ true → length ds ≡ length ts
arguments_many [] [] h = refl
arguments_many [] (d ∷ ds) h = absurd (false≢true h)
arguments_many (t ∷ ts) [] h = absurd (false≢true h)
arguments_many (t ∷ ts) (d ∷ ds) h = ap (λ (n : ℕ). suc n) (arguments_many ts ds (second_so (is_argument t d) _ h))

pub all_types : (plan : PlanNo) (ts : List TheArgType) → length (arranged (λ (t : TheArgType). t) plan ts) ≡ length ts
all_types plan ts = ap length (types_arranged plan ts) ∙ length_rearranged plan ts ts refl

-- ---- the plan's order

pairs_again : (args : List Argument) → zip (map (λ (a : Argument). a.0) args) (map (λ (a : Argument). a.1) args) ≡ args
pairs_again [] = refl
pairs_again (a ∷ args) = ap (λ (l : List Argument). a ∷ l) (pairs_again args)

-- the tape is that of the values in the plan's order
tape_rearranged : (plan : PlanNo) (ts : List TheArgType) (xs : List Datum) → length xs ≡ length ts
    → flat_map tape_of_argument (arranged kind plan (zip ts xs)) ≡ tape_with (arranged (λ (t : TheArgType). t) plan ts) (rearranged plan ts xs)
tape_rearranged plan ts xs long =
    let args = arranged kind plan (zip ts xs) in
    ap (flat_map tape_of_argument) (sym (pairs_again args))
    ∙ ap (λ (us : List TheArgType). flat_map tape_of_argument (zip us (map (λ (a : Argument). a.1) args))) (firsts_arranged plan ts xs long)
    ∙ ap (λ (ds : List Datum). tape_with (arranged (λ (t : TheArgType). t) plan ts) ds) (seconds_arranged plan ts xs long)

-- ---- the call of a tape

fits_at : (found : Option TheMessage) (m : TheMessage) (args : List Datum) → found ≡ Some m → are_arguments m.args args ≡ true → fit_message found args ≡ true
fits_at found m args e h = rw e h

fitting_at : (found : Option TheMessage) (m : TheMessage) (args : List Datum) → found ≡ Some m → fit_message found args ≡ true → are_arguments m.args args ≡ true
fitting_at found m args e h = rw e at h

-- values that stand on the tape, put back in declared order, are a call that has it
pub call_found : (plan : PlanNo) (i : TheInterface) (m : TheMessage) (msg : ℕ) (tape : List ℕ) (rs vs : List Datum) → slice_get i.messages msg ≡ Some m
    → InTurn ArgumentAt (arranged (λ (t : TheArgType). t) plan m.args) tape rs [] → length vs ≡ length m.args → rearranged plan m.args vs ≡ rs
    → HasTape plan i msg tape (record { msg = msg; args = vs })
call_found plan i m msg tape rs vs here stands long back =
    let ts = m.args in
    let types : are_arguments (rearranged plan ts ts) (rearranged plan ts vs) ≡ true
    = subst (λ (us : List TheArgType). are_arguments us (rearranged plan ts vs) ≡ true) (types_arranged plan ts)
    (subst (λ (ds : List Datum). are_arguments (arranged (λ (t : TheArgType). t) plan ts) ds ≡ true) (sym back) (arguments_typed (arranged (λ (t : TheArgType). t) plan ts) tape rs [] stands)) in
    let whole : tape ≡ flat_map tape_of_argument (arranged kind plan (zip ts vs))
    = arguments_prefix (arranged (λ (t : TheArgType). t) plan ts) tape rs [] stands ∙ append-nil (tape_with (arranged (λ (t : TheArgType). t) plan ts) rs)
    ∙ ap (λ (ds : List Datum). tape_with (arranged (λ (t : TheArgType). t) plan ts) ds) (sym back) ∙ sym (tape_rearranged plan ts vs long) in
    record {
      message = refl;
      fits = fits_at (slice_get i.messages msg) m vs here (typed_again plan ts vs long types);
      whole = whole ∙ ap (λ (found : Option TheMessage). flat_map tape_of_argument (arranged kind plan (zip (types_of found) vs))) (sym here);
    }

-- a call's arguments fit its message
call_fits : (plan : PlanNo) (i : TheInterface) (m : TheMessage) (msg : ℕ) (tape : List ℕ) (c : TheCall) → slice_get i.messages msg ≡ Some m → HasTape plan i msg tape c
    → are_arguments m.args c.args ≡ true
call_fits plan i m msg tape c here h = fitting_at (slice_get i.messages c.msg) m c.args (ap (slice_get i.messages) h.message ∙ here) h.fits

-- a call that has the tape stands on it
call_stands : (plan : PlanNo) (i : TheInterface) (m : TheMessage) (msg : ℕ) (tape : List ℕ) (c : TheCall) → slice_get i.messages msg ≡ Some m → HasTape plan i msg tape c
    → InTurn ArgumentAt (arranged (λ (t : TheArgType). t) plan m.args) tape (rearranged plan m.args c.args) []
call_stands plan i m msg tape c here h =
    let ts = m.args in
    let fit = call_fits plan i m msg tape c here h in
    let long = arguments_many ts c.args fit in
    let types : are_arguments (arranged (λ (t : TheArgType). t) plan ts) (rearranged plan ts c.args) ≡ true
    = subst (λ (us : List TheArgType). are_arguments us (rearranged plan ts c.args) ≡ true) (sym (types_arranged plan ts)) (rearranged_typed plan ts c.args long fit) in
    let whole : tape ≡ tape_with (arranged (λ (t : TheArgType). t) plan ts) (rearranged plan ts c.args) ++ []
    = h.whole ∙ ap (λ (found : Option TheMessage). flat_map tape_of_argument (arranged kind plan (zip (types_of found) c.args))) (ap (slice_get i.messages) h.message ∙ here)
    ∙ tape_rearranged plan ts c.args long ∙ sym (append-nil (tape_with (arranged (λ (t : TheArgType). t) plan ts) (rearranged plan ts c.args))) in
    arguments_stand (arranged (λ (t : TheArgType). t) plan ts) tape (rearranged plan ts c.args) [] types whole

pub call_none : (plan : PlanNo) (i : TheInterface) (m : TheMessage) (msg : ℕ) (tape : List ℕ) → slice_get i.messages msg ≡ Some m
    → NoneOf (InTurn ArgumentAt (arranged (λ (t : TheArgType). t) plan m.args) tape) → (c : TheCall) → HasTape plan i msg tape c → ⊥
call_none plan i m msg tape here none c h = none (rearranged plan m.args c.args) [] (call_stands plan i m msg tape c here h)

-- where numbers are left over, no call has the tape
pub call_past : (plan : PlanNo) (i : TheInterface) (m : TheMessage) (msg : ℕ) (tape : List ℕ) (rs : List Datum) (rest : List ℕ) → slice_get i.messages msg ≡ Some m
    → TheOne (InTurn ArgumentAt (arranged (λ (t : TheArgType). t) plan m.args) tape) rs rest → (rest ≡ [] → ⊥) → (c : TheCall) → HasTape plan i msg tape c → ⊥
call_past plan i m msg tape rs rest here one left c h = left (one.only (rearranged plan m.args c.args) [] (call_stands plan i m msg tape c here h)).1

pub call_missing : (plan : PlanNo) (i : TheInterface) (msg : ℕ) (tape : List ℕ) → slice_get i.messages msg ≡ None → (c : TheCall) → HasTape plan i msg tape c → ⊥
call_missing plan i msg tape here c h =
    let fit : fit_message None c.args ≡ true = subst (λ (found : Option TheMessage). fit_message found c.args ≡ true) (ap (slice_get i.messages) h.message ∙ here) h.fits in
    false≢true fit

call_same : (c d : TheCall) → c.msg ≡ d.msg → c.args ≡ d.args → c ≡ d
call_same c d e f =
    let made : ℕ → List Datum → TheCall = λ n ds. record { msg = n; args = ds } in
    ap (λ (n : ℕ). made n c.args) e ∙ ap (λ (ds : List Datum). made d.msg ds) f

-- the call that was put together is the one
pub call_only : (plan : PlanNo) (i : TheInterface) (m : TheMessage) (msg : ℕ) (tape : List ℕ) (rs vs : List Datum) (rest : List ℕ) → slice_get i.messages msg ≡ Some m
    → TheOne (InTurn ArgumentAt (arranged (λ (t : TheArgType). t) plan m.args) tape) rs rest → length vs ≡ length m.args → rearranged plan m.args vs ≡ rs
    → (c : TheCall) → HasTape plan i msg tape c → record { msg = msg; args = vs } ≡ c
call_only plan i m msg tape rs vs rest here one long back c h =
    let same = one.only (rearranged plan m.args c.args) [] (call_stands plan i m msg tape c here h) in
    let many = arguments_many m.args c.args (call_fits plan i m msg tape c here h) in
    let args : vs ≡ c.args = rearranged_told plan m.args vs c.args long many (back ∙ same.0) in
    call_same (record { msg = msg; args = vs }) c (sym h.message) args

-- ---- a tape is one call's, by the definitions alone

cons_told : (a b : ℕ) (r s : List ℕ) → a ∷ r ≡ b ∷ s → (a ≡ b) × (r ≡ s)
cons_told a b r s e =
    let heads : a ≡ b = cc in
    let tails : r ≡ s = cc in
    (heads, tails)

mutual
  value_told : (t : TheType) (x y : Datum) (r s : List ℕ) → words_fit t ≡ true → has_type t x ≡ true → has_type t y ≡ true
      → value_tape t x ++ r ≡ value_tape t y ++ s → (x ≡ y) × (r ≡ s)
  value_told (scalar k) (number x) (number y) r s w hx hy e =
      let (bits, rest) = cons_told _ _ r s e in
      (ap number (raw_told (scalar_bits k) (least_above k) (how_many_below k) (scalar_room k) x y (scalar_range k x hx) (scalar_range k y hy) bits), rest)
  value_told (enumeration n) (number x) (number y) r s w hx hy e =
      let (bits, rest) = cons_told _ _ r s e in
      (ap number (raw_told 32 n 0 (omega (arith, leb-true n (2 ^ 32) w)) x y (enum_range n x hx) (enum_range n y hy) bits), rest)
  value_told (structure ts) (fields xs) (fields ys) r s w hx hy e =
      let (same, rest) = fields_told ts xs ys r s w hx hy e in
      (ap fields same, rest)
  value_told (array n t) (elements xs) (elements ys) r s w hx hy e =
      let many : count_of xs ≡ count_of ys = eqb-true (count_of xs) n (first_so _ _ hx) ∙ sym (eqb-true (count_of ys) n (first_so _ _ hy)) in
      let (same, rest) = elements_told t xs ys r s w many (second_so _ _ hx) (second_so _ _ hy) e in
      (ap elements same, rest)
  value_told t x y r s w hx hy e = absurd (cc)

  fields_told : (ts : TheTypes) (xs ys : Data) (r s : List ℕ) → all_words_fit ts ≡ true → have_types ts xs ≡ true → have_types ts ys ≡ true
      → fields_tape ts xs ++ r ≡ fields_tape ts ys ++ s → (xs ≡ ys) × (r ≡ s)
  fields_told no_more nothing_more nothing_more r s w hx hy e = (refl, e)
  fields_told (field t ts) (also x xs) (also y ys) r s w hx hy e =
      let (one, others) = value_told t x y (fields_tape ts xs ++ r) (fields_tape ts ys ++ s) (first_so _ _ w) (first_so _ _ hx) (first_so _ _ hy)
      (sym (append_assoc (value_tape t x) (fields_tape ts xs) r) ∙ e ∙ append_assoc (value_tape t y) (fields_tape ts ys) s) in
      let (same, rest) = fields_told ts xs ys r s (second_so _ _ w) (second_so _ _ hx) (second_so _ _ hy) others in
      (ap (λ (d : Datum). also d xs) one ∙ ap (λ (ds : Data). also y ds) same, rest)
  fields_told ts xs ys r s w hx hy e = absurd (cc)

  elements_told : (t : TheType) (xs ys : Data) (r s : List ℕ) → words_fit t ≡ true → count_of xs ≡ count_of ys → all_have_type t xs ≡ true → all_have_type t ys ≡ true
      → elements_tape t xs ++ r ≡ elements_tape t ys ++ s → (xs ≡ ys) × (r ≡ s)
  elements_told t nothing_more nothing_more r s w many hx hy e = (refl, e)
  elements_told t nothing_more (also y ys) r s w many hx hy e = absurd (omega (arith, many))
  elements_told t (also x xs) nothing_more r s w many hx hy e = absurd (omega (arith, many))
  elements_told t (also x xs) (also y ys) r s w many hx hy e =
      let (one, others) = value_told t x y (elements_tape t xs ++ r) (elements_tape t ys ++ s) w (first_so _ _ hx) (first_so _ _ hy)
      (sym (append_assoc (value_tape t x) (elements_tape t xs) r) ∙ e ∙ append_assoc (value_tape t y) (elements_tape t ys) s) in
      let (same, rest) = elements_told t xs ys r s w (omega (arith, many)) (second_so _ _ hx) (second_so _ _ hy) others in
      (ap (λ (d : Datum). also d xs) one ∙ ap (λ (ds : Data). also y ds) same, rest)

argument_told : (t : TheArgType) (x y : Datum) (r s : List ℕ) → argument_words_fit t ≡ true → is_argument t x ≡ true → is_argument t y ≡ true
    → argument_tape t x ++ r ≡ argument_tape t y ++ s → (x ≡ y) × (r ≡ s)
argument_told (fixed t) x y r s w hx hy e = value_told t x y r s w hx hy e
argument_told (text max) (string xs) (string ys) r s w hx hy e =
    let (many, behind) = cons_told (length xs) (length ys) (xs ++ r) (ys ++ s) e in
    let (same, rest) = split_same xs ys r s many behind in
    (ap string same, rest)
argument_told (sized max t) (elements xs) (elements ys) r s w hx hy e =
    let (many, behind) = cons_told (count_of xs) (count_of ys) (elements_tape t xs ++ r) (elements_tape t ys ++ s) e in
    let (same, rest) = elements_told t xs ys r s (second_so _ (words_fit t) w) many (second_so _ _ hx) (second_so _ _ hy) behind in
    (ap elements same, rest)
argument_told t x y r s w hx hy e = absurd (cc)

arguments_told : (ts : List TheArgType) (xs ys : List Datum) (r s : List ℕ) → list_all argument_words_fit ts ≡ true → are_arguments ts xs ≡ true → are_arguments ts ys ≡ true
    → tape_with ts xs ++ r ≡ tape_with ts ys ++ s → (xs ≡ ys) × (r ≡ s)
arguments_told [] [] [] r s w hx hy e = (refl, e)
arguments_told [] [] (y ∷ ys) r s w hx hy e = absurd (false≢true hy)
arguments_told [] (x ∷ xs) ys r s w hx hy e = absurd (false≢true hx)
arguments_told (t ∷ ts) [] ys r s w hx hy e = absurd (false≢true hx)
arguments_told (t ∷ ts) (x ∷ xs) [] r s w hx hy e = absurd (false≢true hy)
arguments_told (t ∷ ts) (x ∷ xs) (y ∷ ys) r s w hx hy e =
    let (one, others) = argument_told t x y (tape_with ts xs ++ r) (tape_with ts ys ++ s) (first_so _ _ w) (first_so (is_argument t x) _ hx) (first_so (is_argument t y) _ hy)
    (sym (append_assoc (argument_tape t x) (tape_with ts xs) r) ∙ e ∙ append_assoc (argument_tape t y) (tape_with ts ys) s) in
    let (same, rest) = arguments_told ts xs ys r s (second_so _ _ w) (second_so (is_argument t x) _ hx) (second_so (is_argument t y) _ hy) others in
    (ap (λ (d : Datum). d ∷ xs) one ∙ ap (λ (ds : List Datum). y ∷ ds) same, rest)

-- a test that all types pass, they pass in the plan's order
insert_all : (p : TheArgType → Bool) (n : ℕ) (ts : List TheArgType) (t : TheArgType) → p t ≡ true → list_all p ts ≡ true → list_all p (insert ts n t) ≡ true
insert_all p zero ts t h k = rw h k
insert_all p (suc n) [] t h k = rw h refl
insert_all p (suc n) (u ∷ ts) t h k = rw (first_so (p u) _ k) (insert_all p n ts t h (second_so (p u) _ k))

rearranged_all : (p : TheArgType → Bool) (plan : PlanNo) (ts : List TheArgType) → list_all p ts ≡ true → list_all p (rearranged plan ts ts) ≡ true
rearranged_all p One ts h = h
rearranged_all p Two [] h = refl
rearranged_all p Two (t ∷ ts) h =
    subst (λ (us : List TheArgType). list_all p us ≡ true) (sym (prefix t ts t ts refl))
    (insert_all p (before t ts) (rearranged Two ts ts) t (first_so (p t) _ h) (rearranged_all p Two ts (second_so (p t) _ h)))

message_all : (p : TheMessage → Bool) (ms : List TheMessage) (n : ℕ) (m : TheMessage) → list_all p ms ≡ true → slice_get ms n ≡ Some m → p m ≡ true
message_all p [] n m h e = absurd (cc)
message_all p (k ∷ ms) zero m h e = let same : k ≡ m = cc in subst (λ (v : TheMessage). p v ≡ true) same (first_so (p k) _ h)
message_all p (k ∷ ms) (suc n) m h e = message_all p ms n m (second_so (p k) _ h) e

two_calls : (plan : PlanNo) (i : TheInterface) (m : TheMessage) (msg : ℕ) (tape : List ℕ) (c d : TheCall) → interface_words_fit i ≡ true → slice_get i.messages msg ≡ Some m
    → HasTape plan i msg tape c → HasTape plan i msg tape d → c ≡ d
two_calls plan i m msg tape c d w here h k =
    let ts = m.args in
    let us = arranged (λ (t : TheArgType). t) plan ts in
    let small = message_all (λ (m : TheMessage). list_all argument_words_fit m.args) i.messages msg m w here in
    let smalls : list_all argument_words_fit us ≡ true
    = subst (λ (vs : List TheArgType). list_all argument_words_fit vs ≡ true) (sym (types_arranged plan ts)) (rearranged_all argument_words_fit plan ts small) in
    let one = call_stands plan i m msg tape c here h in
    let two = call_stands plan i m msg tape d here k in
    let same = arguments_told us (rearranged plan ts c.args) (rearranged plan ts d.args) [] [] smalls
    (arguments_typed us tape (rearranged plan ts c.args) [] one) (arguments_typed us tape (rearranged plan ts d.args) [] two)
    (sym (arguments_prefix us tape (rearranged plan ts c.args) [] one) ∙ arguments_prefix us tape (rearranged plan ts d.args) [] two) in
    let args : c.args ≡ d.args = rearranged_told plan ts c.args d.args (arguments_many ts c.args (call_fits plan i m msg tape c here h)) (arguments_many ts d.args (call_fits plan i m msg tape d here k)) same.0 in
    call_same c d (h.message ∙ sym k.message) args

one_call_at : (plan : PlanNo) (i : TheInterface) (msg : ℕ) (tape : List ℕ) (c d : TheCall) → interface_words_fit i ≡ true
    → HasTape plan i msg tape c → HasTape plan i msg tape d → (found : Option TheMessage) → slice_get i.messages msg ≡ found → c ≡ d
one_call_at plan i msg tape c d w h k None e = absurd (call_missing plan i msg tape e c h)
one_call_at plan i msg tape c d w h k (Some m) e = two_calls plan i m msg tape c d w e h k

pub one_call : (plan : PlanNo) (i : TheInterface) (msg : ℕ) (tape : List ℕ) (c d : TheCall) → interface_words_fit i ≡ true
    → HasTape plan i msg tape c → HasTape plan i msg tape d → c ≡ d
one_call plan i msg tape c d w h k = one_call_at plan i msg tape c d w h k (slice_get i.messages msg) refl

-- ---- lists

pub is_empty : (l : List ℕ) → length l ≡ 0 → l ≡ []
is_empty [] e = refl
is_empty (x ∷ l) e = absurd (omega (arith, e))

message_get : (ms : List Message) (n : ℕ) (m : Message) → n < length ms → m ≡ get_or ms n m → slice_get (map message_of ms) n ≡ Some (message_of m)
message_get [] n m h e = absurd (omega (arith, h))
message_get (k ∷ ms) zero m h e = ap (λ (v : Message). Some (message_of v)) (sym e)
message_get (k ∷ ms) (suc n) m h e = message_get ms n m (omega (arith, h)) e

pub message_at : (ms items : List Message) (n k : ℕ) (m : Message) → k ≡ n → items ≡ ms → true ≡ ltb k (length items) → m ≡ get_or items k m
    → slice_get (map message_of ms) n ≡ Some (message_of m)
message_at ms items n k m e f within here =
    ap (λ (l : List Message). slice_get (map message_of l) n) (sym f) ∙ ap (λ (j : ℕ). slice_get (map message_of items) j) (sym e)
    ∙ message_get items k m (ltb-true k (length items) (sym within)) here
