-- Lists seen by a function of their elements.
use Rattle.std.proofs.Common.{◌≡◌, ◌∙◌, refl, sym, ap, ℕ, zero, suc, ◌<◌, List, [], ◌∷◌, length, get_or, map, slice_get, slice_set, Option, Some, None}
use Rattle.std.proofs.lemmas.Option.{slice_get-get_or}
use Rattle.fl_base.specs.Given.{given}
use Rattle.fl_model.specs.Given.{changed_at}

later : {Y : Type 0} (f : Y → Y) (y : Y) (ys : List Y) (n : ℕ) (o : Option Y)
    → given o (y ∷ ys) (λ x. slice_set (y ∷ ys) (suc n) (f x)) ≡ y ∷ given o ys (λ x. slice_set ys n (f x))
later f y ys n None = refl
later f y ys n (Some x) = refl

pub map_put : {X Y : Type 0} (v : X → Y) (f : Y → Y) (xs : List X) (n : ℕ) (x y : X) → slice_get xs n ≡ Some x → v y ≡ f (v x)
    → map v (slice_set xs n y) ≡ changed_at n f (map v xs)
map_put v f [] n x y e h = absurd (cc)
map_put v f (z ∷ xs) zero x y e h = let same : z ≡ x = cc in ap (λ k. k ∷ map v xs) (h ∙ ap (λ k. f (v k)) (sym same))
map_put v f (z ∷ xs) (suc n) x y e h = ap (λ ys. v z ∷ ys) (map_put v f xs n x y e h) ∙ sym (later f (v z) (map v xs) n (slice_get (map v xs) n))

pub map_put_or : {X Y : Type 0} (v : X → Y) (f : Y → Y) (xs : List X) (n : ℕ) (x y : X) → n < length xs → x ≡ get_or xs n x → v y ≡ f (v x)
    → map v (slice_set xs n y) ≡ changed_at n f (map v xs)
map_put_or v f xs n x y h e g = map_put v f xs n x y (slice_get-get_or xs n x h ∙ ap Some (sym e)) g
