-- Lists changed at a place or two, and machines' look-ups that are known to find something.
use Rattle.std.proofs.Common.{◌≡◌, ◌≢◌, refl, sym, ◌∙◌, ap, subst, ℕ, zero, suc, List, [], ◌∷◌, slice_get, slice_set, Option, Some, None}
use Rattle.fl_base.specs.Given.{given}
use Rattle.fl_model.specs.Given.{changed_at}
use Rattle.fl_model_laws.proofs.Views.{changed_later}

-- ---- one element set

pub set_twice : {X : Type 0} (xs : List X) (n : ℕ) (x y : X) → slice_set (slice_set xs n x) n y ≡ slice_set xs n y
set_twice [] n x y = refl
set_twice (z ∷ xs) zero x y = refl
set_twice (z ∷ xs) (suc n) x y = ap (λ ys. z ∷ ys) (set_twice xs n x y)

pub set_same : {X : Type 0} (xs : List X) (n : ℕ) (x : X) → slice_get xs n ≡ Some x → slice_set xs n x ≡ xs
set_same [] n x q = refl
set_same {X} (z ∷ xs) zero x q = let e : x ≡ z = cc in ap (λ (y : X). y ∷ xs) e
set_same (z ∷ xs) (suc n) x q = ap (λ ys. z ∷ ys) (set_same xs n x q)

pub set_apart : {X : Type 0} (xs : List X) (n m : ℕ) (x y : X) → n ≢ m → slice_set (slice_set xs n x) m y ≡ slice_set (slice_set xs m y) n x
set_apart [] n m x y h = refl
set_apart (z ∷ xs) zero zero x y h = absurd (h refl)
set_apart (z ∷ xs) zero (suc m) x y h = refl
set_apart (z ∷ xs) (suc n) zero x y h = refl
set_apart (z ∷ xs) (suc n) (suc m) x y h = ap (λ ys. z ∷ ys) (set_apart xs n m x y (λ e. h (ap (λ k. suc k) e)))

pub get_set : {X : Type 0} (xs : List X) (n : ℕ) (x y : X) → slice_get xs n ≡ Some x → slice_get (slice_set xs n y) n ≡ Some y
get_set [] n x y q = absurd (cc)
get_set (z ∷ xs) zero x y q = refl
get_set (z ∷ xs) (suc n) x y q = get_set xs n x y q

pub get_apart : {X : Type 0} (xs : List X) (n m : ℕ) (x : X) → n ≢ m → slice_get (slice_set xs n x) m ≡ slice_get xs m
get_apart [] n m x h = refl
get_apart (z ∷ xs) zero zero x h = absurd (h refl)
get_apart (z ∷ xs) zero (suc m) x h = refl
get_apart (z ∷ xs) (suc n) zero x h = refl
get_apart (z ∷ xs) (suc n) (suc m) x h = get_apart xs n m x (λ e. h (ap (λ k. suc k) e))

-- ---- one element changed

pub changed_twice : {X : Type 0} (xs : List X) (n : ℕ) (f g : X → X) → changed_at n f (changed_at n g xs) ≡ changed_at n (λ x. f (g x)) xs
changed_twice [] n f g = refl
changed_twice (z ∷ xs) zero f g = refl
changed_twice (z ∷ xs) (suc n) f g =
    ap (changed_at (suc n) f) (changed_later z xs n g) ∙ changed_later z (changed_at n g xs) n f
    ∙ ap (λ ys. z ∷ ys) (changed_twice xs n f g) ∙ sym (changed_later z xs n (λ x. f (g x)))

pub changed_not : {X : Type 0} (xs : List X) (n : ℕ) (f : X → X) (x : X) → slice_get xs n ≡ Some x → f x ≡ x → changed_at n f xs ≡ xs
changed_not {X} xs n f x q e =
    ap (λ (o : Option X). given o xs λ y. slice_set xs n (f y)) q ∙ ap (slice_set xs n) e ∙ set_same xs n x q

pub changed_apart : {X : Type 0} (xs : List X) (n m : ℕ) (f g : X → X) → n ≢ m → changed_at n f (changed_at m g xs) ≡ changed_at m g (changed_at n f xs)
changed_apart [] n m f g h = refl
changed_apart (z ∷ xs) zero zero f g h = absurd (h refl)
changed_apart (z ∷ xs) zero (suc m) f g h =
    ap (changed_at 0 f) (changed_later z xs m g) ∙ sym (changed_later (f z) xs m g)
changed_apart (z ∷ xs) (suc n) zero f g h =
    changed_later (g z) xs n f ∙ sym (ap (changed_at 0 g) (changed_later z xs n f))
changed_apart (z ∷ xs) (suc n) (suc m) f g h =
    ap (changed_at (suc n) f) (changed_later z xs m g) ∙ changed_later z (changed_at m g xs) n f
    ∙ ap (λ ys. z ∷ ys) (changed_apart xs n m f g (λ e. h (ap (λ k. suc k) e)))
    ∙ sym (ap (changed_at (suc m) g) (changed_later z xs n f) ∙ changed_later z (changed_at n f xs) m g)

pub get_changed : {X : Type 0} (xs : List X) (n : ℕ) (f : X → X) (x : X) → slice_get xs n ≡ Some x → slice_get (changed_at n f xs) n ≡ Some (f x)
get_changed {X} xs n f x q =
    ap (λ (o : Option X). slice_get (given o xs (λ y. slice_set xs n (f y))) n) q ∙ get_set xs n x (f x) q

pub get_changed_apart : {X : Type 0} (xs : List X) (n m : ℕ) (f : X → X) → n ≢ m → slice_get (changed_at n f xs) m ≡ slice_get xs m
get_changed_apart {X} xs n m f h = by (slice_get xs n)
  where
    by : (o : Option X) → slice_get (given o xs (λ y. slice_set xs n (f y))) m ≡ slice_get xs m
    by None = refl
    by (Some y) = get_apart xs n m (f y) h

-- ---- look-ups

pub none_first : {X : Type 0} (xs : List X) → slice_get xs 0 ≡ None → xs ≡ []
none_first [] h = refl
none_first (x ∷ xs) h = absurd (cc)

pub some_is : {X : Type 0} (x y : X) → Some x ≡ Some y → x ≡ y
some_is x y h = cc

pub given_is : {X Y : Type 0} (o : Option X) (d : Y) (f : X → Y) (x : X) → o ≡ Some x → given o d f ≡ f x
given_is {X} o d f x q = ap (λ (p : Option X). given p d f) q
