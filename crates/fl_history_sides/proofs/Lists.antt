-- Lists of which one place is written.
use Rattle.std.proofs.Common.{ℕ, zero, suc, ◌≡◌, ◌≢◌, List, [], ◌∷◌, ◌++◌, map, slice_get, set, Some, ap, subst, ◌∙◌, sym, refl, arith}
use Rattle.std.specs.List.{AllByRecursion}
use Rattle.fl_history_sides.specs.Lent.{without}

pub all_push : {A : Type 0} (P : A → Type 0) (xs : List A) (x : A) → AllByRecursion P xs → P x → AllByRecursion P (xs ++ x ∷ [])
all_push P [] x all one = (one, tt)
all_push P (y ∷ ys) x all one = (all.0, all_push P ys x all.1 one)

pub all_there : {A : Type 0} (P : A → Type 0) (xs : List A) (n : ℕ) (x : A) → AllByRecursion P xs → slice_get xs n ≡ Some x → P x
all_there P [] n x all at = absurd (cc)
all_there P (y ∷ ys) zero x all at = let same : y ≡ x = cc in subst (λ z. P z) same all.0
all_there P (y ∷ ys) (suc n) x all at = all_there P ys n x all.1 at

pub all_so : {A : Type 0} (P Q : A → Type 0) (xs : List A) → AllByRecursion P xs → ((i : ℕ) (x : A) → slice_get xs i ≡ Some x → P x → Q x) → AllByRecursion Q xs
all_so P Q [] all each = tt
all_so P Q (x ∷ xs) all each = (each zero x refl all.0, all_so P Q xs all.1 (λ i y at. each (suc i) y at))

-- once one place is written
pub all_set : {A : Type 0} (P Q : A → Type 0) (xs : List A) (n : ℕ) (y : A) → AllByRecursion P xs → ((i : ℕ) (x : A) → i ≢ n → slice_get xs i ≡ Some x → P x → Q x) → Q y → AllByRecursion Q (set xs n y)
all_set P Q [] n y all each one = tt
all_set P Q (x ∷ xs) zero y all each one = (one, all_so P Q xs all.1 (λ i z at. each (suc i) z (λ e. absurd (omega arith)) at))
all_set P Q (x ∷ xs) (suc n) y all each one =
    (each zero x (λ e. absurd (omega arith)) refl all.0, all_set P Q xs n y all.1 (λ i z ne at. each (suc i) z (λ e. ne (omega arith)) at) one)

-- of what is told of each nothing changes
pub map_set : {A B : Type 0} (f : A → B) (xs : List A) (n : ℕ) (x y : A) → slice_get xs n ≡ Some x → f y ≡ f x → map f (set xs n y) ≡ map f xs
map_set f [] n x y at same = refl
map_set {A} {B} f (z ∷ zs) zero x y at same = let here : z ≡ x = cc in ap (λ (b : B). b ∷ map f zs) (same ∙ ap f (sym here))
map_set {A} {B} f (z ∷ zs) (suc n) x y at same = ap (λ (l : List B). f z ∷ l) (map_set f zs n x y at same)

pub map_alike : {A B : Type 0} (f g : A → B) (xs : List A) → ((i : ℕ) (x : A) → slice_get xs i ≡ Some x → g x ≡ f x) → map g xs ≡ map f xs
map_alike f g [] each = refl
map_alike {A} {B} f g (x ∷ xs) each =
    ap (λ (b : B). b ∷ map g xs) (each zero x refl) ∙ ap (λ (l : List B). f x ∷ l) (map_alike f g xs (λ i y at. each (suc i) y at))

-- the others stay
pub others_alike : {A B : Type 0} (f g : A → B) (xs : List A) (n : ℕ) (y : A) → ((i : ℕ) (x : A) → i ≢ n → slice_get xs i ≡ Some x → g x ≡ f x) → without n (map g (set xs n y)) ≡ without n (map f xs)
others_alike f g [] n y each = refl
others_alike f g (x ∷ xs) zero y each = map_alike f g xs (λ i z at. each (suc i) z (λ e. absurd (omega arith)) at)
others_alike {A} {B} f g (x ∷ xs) (suc n) y each =
    ap (λ (b : B). b ∷ without n (map g (set xs n y))) (each zero x (λ e. absurd (omega arith)) refl)
    ∙ ap (λ (l : List B). f x ∷ l) (others_alike f g xs n y (λ i z ne at. each (suc i) z (λ e. ne (omega arith)) at))
