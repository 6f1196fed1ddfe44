-- How laws go through the machine's definitions: by cases on a test, on what may be there, and on one element changed.
use Rattle.std.proofs.Common.{◌≡◌, refl, subst, ℕ, zero, suc, Bool, true, false, if◌then◌else◌, List, [], ◌∷◌, ◌++◌, slice_get, slice_set, Option, Some, None}
use Rattle.fl_base.specs.Given.{given}
use Rattle.fl_model.specs.Given.{changed_at}

pub either : {A : Type 0} (P : A → Type 0) (b : Bool) (x y : A) → (b ≡ true → P x) → (b ≡ false → P y) → P (if b then x else y)
either P true x y f g = f refl
either P false x y f g = g refl

pub by_given : {X Y : Type 0} (P : Y → Type 0) (o : Option X) (y : Y) (f : X → Y) → P y → ((x : X) → o ≡ Some x → P (f x)) → P (given o y f)
by_given P None y f h g = h
by_given P (Some x) y f h g = g x refl

-- and with what is known where nothing is there
pub by_given_or : {X Y : Type 0} (P : Y → Type 0) (o : Option X) (y : Y) (f : X → Y) → (o ≡ None → P y) → ((x : X) → o ≡ Some x → P (f x)) → P (given o y f)
by_given_or P None y f h g = h refl
by_given_or P (Some x) y f h g = g x refl

-- P holds of each element
abbrev pub Each : {X : Type 0} → (X → Type 0) → List X → Type 0
Each {X} P xs = (n : ℕ) (x : X) → slice_get xs n ≡ Some x → P x

pub none_at_end : {X : Type 0} (P : X → Type 0) → Each P []
none_at_end P n x h = absurd (cc)

pub each_tail : {X : Type 0} (P : X → Type 0) (y : X) (xs : List X) → Each P (y ∷ xs) → Each P xs
each_tail P y xs h n x q = h (suc n) x q

pub each_push : {X : Type 0} (P : X → Type 0) (xs : List X) (y : X) → Each P xs → P y → Each P (xs ++ y ∷ [])
each_push P [] y h k zero x q = subst P (let e : y ≡ x = cc in e) k
each_push P [] y h k (suc n) x q = absurd (cc)
each_push P (z ∷ xs) y h k zero x q = h zero x q
each_push P (z ∷ xs) y h k (suc n) x q = each_push P xs y (each_tail P z xs h) k n x q

pub each_set : {X : Type 0} (P : X → Type 0) (xs : List X) (m : ℕ) (y : X) → Each P xs → P y → Each P (slice_set xs m y)
each_set P [] m y h k n x q = absurd (cc)
each_set P (z ∷ xs) zero y h k zero x q = subst P (let e : y ≡ x = cc in e) k
each_set P (z ∷ xs) zero y h k (suc n) x q = h (suc n) x q
each_set P (z ∷ xs) (suc m) y h k zero x q = h zero x q
each_set P (z ∷ xs) (suc m) y h k (suc n) x q = each_set P xs m y (each_tail P z xs h) k n x q

pub each_changed : {X : Type 0} (P : X → Type 0) (xs : List X) (m : ℕ) (f : X → X) → Each P xs
    → ((x : X) → slice_get xs m ≡ Some x → P x → P (f x)) → Each P (changed_at m f xs)
each_changed P xs m f h k =
    by_given (Each P) (slice_get xs m) xs (λ x. slice_set xs m (f x)) h
    (λ x q. each_set P xs m (f x) h (k x q (h m x q)))
