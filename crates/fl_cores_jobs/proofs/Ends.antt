-- Ends and their ends' work.
use Rattle.std.proofs.Common.{◌≡◌, ◌≢◌, refl, sym, ap, ◌∙◌, subst, ℕ, zero, suc, ◌<◌, ◌+◌, ◌*◌, ◌==◌, ◌&&◌, if◌then◌else◌, List, [], ◌∷◌, ◌++◌, length, slice_get, slice_set}
use Rattle.std.proofs.Common.{Option, Some, Bool, true, false, arith}
use Rattle.std.proofs.lemmas.Bool.Decides.{nat_tests}
use Rattle.fl_base.specs.declared.identity.Side.{Side}
use Rattle.fl_base.specs.declared.identity.Side.TheVariants.{Client, Server}
use Rattle.fl_base.specs.declared.identity.EndId.{EndId}
use Rattle.fl_base.specs.Ends.{peer, other}
use Rattle.fl_base.specs.Given.{given}
use Rattle.fl_model.specs.Given.{changed_at}
use Rattle.fl_model.specs.Runs.{same_side, same_end}
use Rattle.fl_core.specs.View.{side_number, slot_of}
use Rattle.fl_cores_jobs.specs.EndWork.{TheEndWork, no_end_work, end_work_at}

sides_differ : (a b : Side) → same_side a b ≡ false → side_number a ≢ side_number b
sides_differ Client Client not_same e = absurd (cc)
sides_differ Client Server not_same e = absurd (omega (arith, e))
sides_differ Server Client not_same e = absurd (omega (arith, e))
sides_differ Server Server not_same e = absurd (cc)

sides_same : (a b : Side) → same_side a b ≡ true → side_number a ≡ side_number b
sides_same Client Client yes_is = refl
sides_same Client Server yes_is = absurd (cc)
sides_same Server Client yes_is = absurd (cc)
sides_same Server Server yes_is = refl

few : (a : Side) → side_number a < 2
few Client = omega arith
few Server = omega arith

-- an end of one of n bindings has its slot
pub slot_within : (e : EndId) (n m : ℕ) → e.binding < n → m ≡ 2 * n → slot_of e < m
slot_within e n m h is = let s = few e.side in omega (arith, h, is, s)

slots_by : (p q : ℕ) (x y : Side) (a b : Bool) → (p == q) ≡ a → same_side x y ≡ b → (2 * p + side_number x == 2 * q + side_number y) ≡ (a && b)
slots_by p q x y true true same sides = let s = sides_same x y sides in grind (arith, nat_tests, same, s)
slots_by p q x y true false same sides = let s = sides_differ x y sides in grind (arith, nat_tests, same, s)
slots_by p q x y false b same sides = let s = few x in let t = few y in grind (arith, nat_tests, same, s, t)

pub slots : (e f : EndId) → (slot_of e == slot_of f) ≡ same_end e f
slots e f = slots_by e.binding f.binding e.side f.side (e.binding == f.binding) (same_side e.side f.side) refl refl

one_side : (a b : Side) → same_side a b ≡ true → a ≡ b
one_side Client Client is = refl
one_side Client Server is = absurd (cc)
one_side Server Client is = absurd (cc)
one_side Server Server is = refl

one_end_by : (e f : EndId) (a b : Bool) → (e.binding == f.binding) ≡ a → same_side e.side f.side ≡ b → (a && b) ≡ true → e ≡ f
one_end_by e f true true same sides is =
    let bindings : e.binding ≡ f.binding = grind (arith, nat_tests, same) in
    let side : e.side ≡ f.side = one_side e.side f.side sides in
    ap (λ (n : ℕ). let x : EndId = record { binding = n; side = e.side } in x) bindings
    ∙ ap (λ (s : Side). let x : EndId = record { binding = f.binding; side = s } in x) side
one_end_by e f true false same sides is = absurd (cc)
one_end_by e f false b same sides is = absurd (cc)

pub one_end : (e f : EndId) → same_end e f ≡ true → e ≡ f
one_end e f is = one_end_by e f (e.binding == f.binding) (same_side e.side f.side) refl refl is

-- an end isn't its peer
apart_by : (s t : Side) (b : Bool) → same_side s t ≡ true → (b && same_side (other s) t) ≡ false
apart_by Client Client true h = refl
apart_by Client Client false h = refl
apart_by Server Server true h = refl
apart_by Server Server false h = refl
apart_by Client Server b h = absurd (cc)
apart_by Server Client b h = absurd (cc)

right_true : (a b : Bool) → (a && b) ≡ true → b ≡ true
right_true true b h = h
right_true false b h = absurd (cc)

pub apart : (e f : EndId) → same_end e f ≡ true → same_end (peer e) f ≡ false
apart e f h = apart_by e.side f.side (e.binding == f.binding) (right_true (e.binding == f.binding) (same_side e.side f.side) h)

-- ---- an end's work changes

abbrev at_place : List TheEndWork → ℕ → TheEndWork
at_place end_works n = given (slice_get end_works n) no_end_work λ d. d

put_here : (end_works : List TheEndWork) (n : ℕ) (x : TheEndWork) → n < length end_works → at_place (slice_set end_works n x) n ≡ x
put_here [] n x h = absurd (omega (arith, h))
put_here (d ∷ end_works) zero x h = refl
put_here (d ∷ end_works) (suc n) x h = put_here end_works n x (omega (arith, h))

put_elsewhere : (end_works : List TheEndWork) (n k : ℕ) (x : TheEndWork) → k ≢ n → at_place (slice_set end_works n x) k ≡ at_place end_works k
put_elsewhere [] n k x h = refl
put_elsewhere (d ∷ end_works) zero zero x h = absurd (h refl)
put_elsewhere (d ∷ end_works) zero (suc k) x h = refl
put_elsewhere (d ∷ end_works) (suc n) zero x h = refl
put_elsewhere (d ∷ end_works) (suc n) (suc k) x h = put_elsewhere end_works n k x (λ e. h (ap suc e))

put_by : (end_works : List TheEndWork) (n k : ℕ) (x : TheEndWork) (b : Bool) → (k == n) ≡ b → n < length end_works
    → at_place (slice_set end_works n x) k ≡ (if b then x else at_place end_works k)
put_by end_works n k x true same h =
    let eq : n ≡ k = grind (arith, nat_tests, same) in
    subst (λ (i : ℕ). at_place (slice_set end_works n x) i ≡ x) eq (put_here end_works n x h)
put_by end_works n k x false same h = put_elsewhere end_works n k x (λ e. absurd (grind (arith, nat_tests, same, e)))

put_place : (end_works : List TheEndWork) (n k : ℕ) (x : TheEndWork) → n < length end_works
    → at_place (slice_set end_works n x) k ≡ (if k == n then x else at_place end_works k)
put_place end_works n k x h = put_by end_works n k x (k == n) refl h

there : (end_works : List TheEndWork) (n : ℕ) → n < length end_works → (d : TheEndWork) × (slice_get end_works n ≡ Some d)
there [] n h = absurd (omega (arith, h))
there (d ∷ end_works) zero h = (d, refl)
there (d ∷ end_works) (suc n) h = there end_works n (omega (arith, h))

if_same : (f : TheEndWork → TheEndWork) (end_works : List TheEndWork) (n k : ℕ) (d : TheEndWork) (b : Bool) → (k == n) ≡ b → slice_get end_works n ≡ Some d
    → (if b then f d else at_place end_works k) ≡ (if b then f (at_place end_works k) else at_place end_works k)
if_same f end_works n k d false same is = refl
if_same f end_works n k d true same is =
    let eq : k ≡ n = grind (arith, nat_tests, same) in
    ap f (sym (ap (λ (o : Option TheEndWork). given o no_end_work (λ y. y)) (ap (slice_get end_works) eq ∙ is)))

changed_place : (end_works : List TheEndWork) (n k : ℕ) (f : TheEndWork → TheEndWork) → n < length end_works
    → at_place (changed_at n f end_works) k ≡ (if k == n then f (at_place end_works k) else at_place end_works k)
changed_place end_works n k f h =
    let x = there end_works n h in
    ap (λ (o : Option TheEndWork). at_place (given o end_works (λ y. slice_set end_works n (f y))) k) x.1
    ∙ put_place end_works n k (f x.0) h
    ∙ if_same f end_works n k x.0 (k == n) refl x.1

pub changed : (end_works : List TheEndWork) (e f : EndId) (g : TheEndWork → TheEndWork) → slot_of f < length end_works
    → end_work_at (changed_at (slot_of f) g end_works) e ≡ (if same_end e f then g (end_work_at end_works e) else end_work_at end_works e)
changed end_works e f g h =
    changed_place end_works (slot_of f) (slot_of e) g h
    ∙ ap (λ (b : Bool). if b then g (end_work_at end_works e) else end_work_at end_works e) (slots e f)

two_places : (end_works : List TheEndWork) (k : ℕ) → at_place (end_works ++ no_end_work ∷ no_end_work ∷ []) k ≡ at_place end_works k
two_places [] zero = refl
two_places [] (suc zero) = refl
two_places [] (suc (suc k)) = refl
two_places (d ∷ end_works) zero = refl
two_places (d ∷ end_works) (suc k) = two_places end_works k

pub two_more : (end_works : List TheEndWork) (e : EndId) → end_work_at (end_works ++ no_end_work ∷ no_end_work ∷ []) e ≡ end_work_at end_works e
two_more end_works e = two_places end_works (slot_of e)
