-- Lists: what stands at a place of a list that is seen through a view, and of one that has more behind it.
use Rattle.std.proofs.Common.{◌≡◌, ◌⊎◌, inl, inr, refl, sym, ◌∙◌, ap, ℕ, zero, suc, Bool, true, false, ◌&&◌, List, [], ◌∷◌, ◌++◌, map, take, slice_get, Option, Some, None, length, option_map, arith}
use Rattle.std.proofs.lemmas.Option.{slice_get-map}
use Rattle.fl_model_laws.proofs.Small.{some_same}
use Rattle.fl_hop.proofs.Lists.{push_keeps}

pub kept : {X : Type 0} (xs more : List X) (y : X) (n : ℕ) → slice_get xs n ≡ Some y → slice_get (xs ++ more) n ≡ Some y
kept xs more y n h = push_keeps xs more n y h

-- in a list with one more at its end
pub got : {X : Type 0} (xs : List X) (x y : X) (n : ℕ) → slice_get (xs ++ x ∷ []) n ≡ Some y → (slice_get xs n ≡ Some y) ⊎ ((n ≡ length xs) × (x ≡ y))
got [] x y zero h = inr (refl, cc)
got [] x y (suc n) h = absurd (cc)
got (z ∷ xs) x y zero h = inl h
got (z ∷ xs) x y (suc n) h = elim (got xs x y n h) [
  | inl at ↦ inl at
  | inr last ↦ inr (omega (arith, last.0), last.1)
]

pub got_map : {X Y : Type 0} (f : X → Y) (xs : List X) (n : ℕ) (y : Y) → slice_get (map f xs) n ≡ Some y → (x : X) × (slice_get xs n ≡ Some x) × (f x ≡ y)
got_map {X} f xs n y at = by (slice_get xs n) refl (sym (slice_get-map f xs n) ∙ at) where
  by : (o : Option X) → slice_get xs n ≡ o → option_map f o ≡ Some y → (x : X) × (slice_get xs n ≡ Some x) × (f x ≡ y)
  by None is e = absurd (cc)
  by (Some x) is e = (x, is, some_same (f x) y e)

pub take_map : {X Y : Type 0} (f : X → Y) (xs : List X) (n : ℕ) → take n (map f xs) ≡ map f (take n xs)
take_map f xs zero = refl
take_map f [] (suc n) = refl
take_map f (x ∷ xs) (suc n) = ap (λ ys. f x ∷ ys) (take_map f xs n)

pub at_front : {X : Type 0} (xs ys : List X) (n : ℕ) (x : X) → (zs : List X) → zs ≡ xs ++ ys → slice_get xs n ≡ Some x → slice_get zs n ≡ Some x
at_front xs ys n x zs is at = ap (λ ws. slice_get ws n) is ∙ kept xs ys x n at

pub none_at : {X : Type 0} (k : ℕ) (x : X) → (let xs : List X = [] in slice_get xs k) ≡ Some x → ⊥
none_at k x h = absurd (cc)

pub both_true : (a b : Bool) → a ≡ true → b ≡ true → (a && b) ≡ true
both_true true b p q = q
both_true false b p q = absurd (cc)
