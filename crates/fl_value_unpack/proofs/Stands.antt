-- A call whose packed tape stands first: its arguments stand there in the plan's order, so what is read is the call.
use Rattle.std.proofs.Common.{◌≡◌, ℕ, suc, true, List, [], ◌∷◌, ◌++◌, length, map, refl, sym, ◌∙◌, ap, subst, append_assoc}
use Rattle.std.specs.Prelude.{Option, Some, None, slice_get}
use Rattle.std.specs.List.{zip, flat_map}
use Rattle.std.specs.Cmp.{first_so, second_so}
use Rattle.std.proofs.lemmas.Bool.{false≢true}
use Rattle.fl_interface.specs.Interface.{TheArgType, TheMessage, TheInterface}
use Rattle.fl_value_data.specs.declared.value.PlanNo.{PlanNo}
use Rattle.fl_value_data.specs.Value.{Datum, TheCall}
use Rattle.fl_value_data.specs.Fits.{is_argument, are_arguments, fit_message}
use Rattle.fl_value_data.specs.Plan.{arranged}
use Rattle.fl_value_data.specs.Tape.{Argument, kind, types_of}
use Rattle.fl_value_data.specs.Taken.{InTurn}
use Rattle.fl_value_data.proofs.Ranked.{rearranged, seconds_arranged, firsts_arranged, types_arranged, rearranged_told, rearranged_typed}
use Rattle.fl_value_tape.specs.Packed.{argument_packed, packed_argument}
use Rattle.fl_value_unpack.specs.Unpacked.{HasPacked}
use Rattle.fl_value_unpack.specs.Reading.{PackedArgumentAt, OnlyOne}

abbrev packed_with : List TheArgType → List Datum → List ℕ
packed_with ts ds = flat_map packed_argument (zip ts ds)

abbrev pub in_order : PlanNo → List TheArgType → List TheArgType
in_order plan ts = arranged (λ (t : TheArgType). t) plan ts

arguments_stand : (ts : List TheArgType) (tape : List ℕ) (ds : List Datum) (rest : List ℕ) → are_arguments ts ds ≡ true → tape ≡ packed_with ts ds ++ rest → InTurn PackedArgumentAt ts tape ds rest
arguments_stand [] tape [] rest h e = e
arguments_stand [] tape (d ∷ ds) rest h e = absurd (false≢true h)
arguments_stand (t ∷ ts) tape [] rest h e = absurd (false≢true h)
arguments_stand (t ∷ ts) tape (d ∷ ds) rest h e =
    let after = packed_with ts ds ++ rest in (
      after,
      record { typed = first_so (is_argument t d) _ h; prefix = e ∙ append_assoc (argument_packed t d) (packed_with ts ds) rest },
      arguments_stand ts after ds rest (second_so (is_argument t d) _ h) refl,
    )

pub arguments_many : (ts : List TheArgType) (ds : List Datum) → are_arguments ts ds ≡ true → length ds ≡ length ts
arguments_many [] [] h = refl
arguments_many [] (d ∷ ds) h = absurd (false≢true h)
arguments_many (t ∷ ts) [] h = absurd (false≢true h)
arguments_many (t ∷ ts) (d ∷ ds) h = ap (λ (n : ℕ). suc n) (arguments_many ts ds (second_so (is_argument t d) _ h))

pairs_again : (args : List Argument) → zip (map (λ (a : Argument). a.0) args) (map (λ (a : Argument). a.1) args) ≡ args
pairs_again [] = refl
pairs_again (a ∷ args) = ap (λ (l : List Argument). a ∷ l) (pairs_again args)

-- the packed tape is that of the values in the plan's order
packed_rearranged : (plan : PlanNo) (ts : List TheArgType) (xs : List Datum) → length xs ≡ length ts
    → flat_map packed_argument (arranged kind plan (zip ts xs)) ≡ packed_with (in_order plan ts) (rearranged plan ts xs)
packed_rearranged plan ts xs long =
    let args = arranged kind plan (zip ts xs) in
    ap (flat_map packed_argument) (sym (pairs_again args))
    ∙ ap (λ (us : List TheArgType). flat_map packed_argument (zip us (map (λ (a : Argument). a.1) args))) (firsts_arranged plan ts xs long)
    ∙ ap (λ (ds : List Datum). packed_with (in_order plan ts) ds) (seconds_arranged plan ts xs long)

fitting_at : (found : Option TheMessage) (m : TheMessage) (args : List Datum) → found ≡ Some m → fit_message found args ≡ true → are_arguments m.args args ≡ true
fitting_at found m args e h = rw e at h

pub call_fits : (plan : PlanNo) (i : TheInterface) (m : TheMessage) (msg : ℕ) (tape : List ℕ) (c : TheCall) → slice_get i.messages msg ≡ Some m → HasPacked plan i msg tape c
    → are_arguments m.args c.args ≡ true
call_fits plan i m msg tape c here h = fitting_at (slice_get i.messages c.msg) m c.args (ap (slice_get i.messages) h.message ∙ here) h.fits

call_stands : (plan : PlanNo) (i : TheInterface) (m : TheMessage) (msg : ℕ) (tape : List ℕ) (c : TheCall) → slice_get i.messages msg ≡ Some m → (h : HasPacked plan i msg tape c)
    → InTurn PackedArgumentAt (in_order plan m.args) tape (rearranged plan m.args c.args) h.after
call_stands plan i m msg tape c here h =
    let ts = m.args in
    let fit = call_fits plan i m msg tape c here h in
    let long = arguments_many ts c.args fit in
    let types : are_arguments (in_order plan ts) (rearranged plan ts c.args) ≡ true
    = subst (λ (us : List TheArgType). are_arguments us (rearranged plan ts c.args) ≡ true) (sym (types_arranged plan ts)) (rearranged_typed plan ts c.args long fit) in
    let found : slice_get i.messages c.msg ≡ Some m = ap (slice_get i.messages) h.message ∙ here in
    let whole : tape ≡ packed_with (in_order plan ts) (rearranged plan ts c.args) ++ h.after
    = h.prefix ∙ ap (λ (o : Option TheMessage). flat_map packed_argument (arranged kind plan (zip (types_of o) c.args)) ++ h.after) found
    ∙ ap (λ (bs : List ℕ). bs ++ h.after) (packed_rearranged plan ts c.args long) in
    arguments_stand (in_order plan ts) tape (rearranged plan ts c.args) h.after types whole

-- what was read in the plan's order is the call's
pub read_are : (plan : PlanNo) (i : TheInterface) (m : TheMessage) (msg : ℕ) (tape : List ℕ) (rs : List Datum) (rest : List ℕ) (c : TheCall) → slice_get i.messages msg ≡ Some m
    → OnlyOne (InTurn PackedArgumentAt (in_order plan m.args) tape) rs rest → HasPacked plan i msg tape c → rs ≡ rearranged plan m.args c.args
read_are plan i m msg tape rs rest c here one h = (one (rearranged plan m.args c.args) h.after (call_stands plan i m msg tape c here h)).0

call_same : (c d : TheCall) → c.msg ≡ d.msg → c.args ≡ d.args → c ≡ d
call_same c d e f =
    let made : ℕ → List Datum → TheCall = λ n ds. record { msg = n; args = ds } in
    ap (λ (n : ℕ). made n c.args) e ∙ ap (λ (ds : List Datum). made d.msg ds) f

-- put back in declared order they are the call
pub call_is : (plan : PlanNo) (i : TheInterface) (m : TheMessage) (msg : ℕ) (tape : List ℕ) (rs vs : List Datum) (rest : List ℕ) (c : TheCall) → slice_get i.messages msg ≡ Some m
    → OnlyOne (InTurn PackedArgumentAt (in_order plan m.args) tape) rs rest → length vs ≡ length m.args → rearranged plan m.args vs ≡ rs → HasPacked plan i msg tape c
    → record { msg = msg; args = vs } ≡ c
call_is plan i m msg tape rs vs rest c here one long back h =
    let same = read_are plan i m msg tape rs rest c here one h in
    let many = arguments_many m.args c.args (call_fits plan i m msg tape c here h) in
    call_same (record { msg = msg; args = vs }) c (sym h.message) (rearranged_told plan m.args vs c.args long many (back ∙ same))

-- a call's message is there
missing_at : (o : Option TheMessage) (args : List Datum) → o ≡ None → fit_message o args ≡ true → ⊥
missing_at None args e h = false≢true h
missing_at (Some m) args e h = absurd (cc)

pub call_missing : (plan : PlanNo) (i : TheInterface) (msg : ℕ) (tape : List ℕ) → slice_get i.messages msg ≡ None → ((c : TheCall) × HasPacked plan i msg tape c) → ⊥
call_missing plan i msg tape here (c, h) = missing_at (slice_get i.messages c.msg) c.args (ap (slice_get i.messages) h.message ∙ here) h.fits
