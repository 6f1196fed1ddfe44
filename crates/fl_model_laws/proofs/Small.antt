-- Small facts on lists, tests and ends, each of which several files use.
use Rattle.std.proofs.Common.{◌≡◌, refl, sym, ◌∙◌, subst, ℕ, zero, suc, ◌<◌, nat_lt, ◌&&◌, not, Bool, true, false}
use Rattle.std.proofs.Common.{List, [], ◌∷◌, ◌++◌, length, replicate, drop, slice_get, slice_set, Option, Some, arith}
use Rattle.std.specs.Prelude.{Contains, slice_index_or}
use Rattle.std.proofs.lemmas.Bool.Decides.{nat_tests}
use Rattle.fl_base.specs.declared.identity.Side.{Side}
use Rattle.fl_base.specs.declared.identity.Side.TheVariants.{Client, Server}
use Rattle.fl_base.specs.Given.{given}
use Rattle.fl_model.specs.Given.{changed_at}
use Rattle.fl_model.specs.Calls.{Planned}
use Rattle.fl_model.specs.Rings.{Label}
use Rattle.fl_model.specs.Ends.{End, Taken, whole, a_part, replies, rule_at}
use Rattle.fl_model.specs.State.{Binding, with_end_in}
use Rattle.fl_model_laws.proofs.Cases.{Each, each_tail, by_given}

-- ---- tests

pub is_not : (b : Bool) → not b ≡ false → b ≡ true
is_not true h = refl
is_not false h = absurd (cc)

pub both_are : (a b : Bool) → (a && b) ≡ true → (a ≡ true) × (b ≡ true)
both_are true b h = (refl, h)
both_are false b h = absurd (cc)

pub less : (a b : ℕ) → nat_lt a b ≡ true → a < b
less a b h = grind (arith, nat_tests, h)

-- ---- lists

pub get_push : {X : Type 0} (xs : List X) (n : ℕ) (x y : X) → slice_get xs n ≡ Some x → slice_get (xs ++ y ∷ []) n ≡ Some x
get_push [] n x y q = absurd (cc)
get_push (z ∷ xs) zero x y q = q
get_push (z ∷ xs) (suc n) x y q = get_push xs n x y q

pub some_same : {X : Type 0} (a b : X) → Some a ≡ Some b → a ≡ b
some_same a b h = cc

pub set_here : {X : Type 0} (xs : List X) (n : ℕ) (x y : X) → slice_get xs n ≡ Some x → slice_get (slice_set xs n y) n ≡ Some y
set_here [] n x y q = absurd (cc)
set_here (z ∷ xs) zero x y q = refl
set_here (z ∷ xs) (suc n) x y q = set_here xs n x y q

pub changed_here : {X : Type 0} (xs : List X) (n : ℕ) (f : X → X) (x : X) → slice_get xs n ≡ Some x → slice_get (changed_at n f xs) n ≡ Some (f x)
changed_here {X} xs n f x q =
    subst (λ (o : Option X). slice_get (given o xs (λ y. slice_set xs n (f y))) n ≡ Some (f x)) (sym q) (set_here xs n x (f x) q)

pub length_set : {X : Type 0} (xs : List X) (n : ℕ) (y : X) → length (slice_set xs n y) ≡ length xs
length_set [] n y = refl
length_set (x ∷ xs) zero y = omega arith
length_set (x ∷ xs) (suc n) y = let ih : length (slice_set xs n y) ≡ length xs = length_set xs n y in omega arith

pub length_replicate : {X : Type 0} (n : ℕ) (x : X) → length (replicate n x) ≡ n
length_replicate zero x = refl
length_replicate (suc n) x = let ih : length (replicate n x) ≡ n = length_replicate n x in omega arith

pub each_drop : {X : Type 0} (P : X → Type 0) (xs : List X) → Each P xs → Each P (drop 1 xs)
each_drop P [] h = h
each_drop P (x ∷ xs) h = each_tail P x xs h

pub each_join : {X : Type 0} (P : X → Type 0) (xs ys : List X) → Each P xs → Each P ys → Each P (xs ++ ys)
each_join P [] ys h k n y q = k n y q
each_join P (x ∷ xs) ys h k zero y q = h zero y q
each_join P (x ∷ xs) ys h k (suc n) y q = each_join P xs ys (each_tail P x xs h) k n y q

pub first_of : (xs : List Label) (k : ℕ) (x : Label) → slice_get xs k ≡ Some x → Contains xs x
first_of [] k x q = absurd (cc)
first_of (y ∷ ys) zero x q = (0, omega arith, (let e : y ≡ x = cc in e))
first_of (y ∷ ys) (suc k) x q = let h = first_of ys k x q in (suc h.0, (let a : h.0 < length ys = h.1 in omega arith), h.2)

pub each_said : (P : Label → Type 0) (xs : List Label) (x : Label) (k : ℕ) → Each P xs → k < length xs → slice_index_or xs k x ≡ x → P x
each_said P [] x k h a q = absurd (omega arith)
each_said P (y ∷ ys) x zero h a q = subst P (let e : y ≡ x = q in e) (h zero y refl)
each_said P (y ∷ ys) x (suc k) h a q = each_said P ys x k (each_tail P y ys h) (omega arith) q

-- ---- ends and bindings

pub replies_queue : (i : Planned) (t : Taken) (x : End) → (replies i t x).queue ≡ x.queue
replies_queue i a_part x = refl
replies_queue i (whole c) x = by_given (λ (y : End). y.queue ≡ x.queue) (rule_at x.rules c.msg) x _ refl (λ msg q. refl)

pub interface_side : (by : Side) (f : End → End) (b : Binding) → (with_end_in by f b).interface ≡ b.interface
interface_side Client f b = refl
interface_side Server f b = refl

pub same_interface : (interfaces : List Planned) (n : ℕ) (i j : Planned) → slice_get interfaces n ≡ Some i → slice_get interfaces n ≡ Some j → i ≡ j
same_interface interfaces n i j p q = let e : Some i ≡ Some j = sym p ∙ q in cc
