-- What two lists that look alike have at one place.
use Rattle.std.proofs.Common.{◌≡◌, ℕ, zero, suc, Some, None, List, [], ◌∷◌, map, refl, sym, ◌∙◌, ap}
use Rattle.std.specs.Prelude.{slice_get}
use Rattle.std.proofs.lemmas.Option.{none-some}

pub record Found {B C : Type 0} (g : B → C) (ys : List B) (k : ℕ) (c : C) : Type 0 where
  pub what : B
  pub at : slice_get ys k ≡ Some what
  pub is : c ≡ g what

pub found : {A B C : Type 0} (f : A → C) (g : B → C) (xs : List A) (ys : List B) (k : ℕ) (x : A) → map f xs ≡ map g ys → slice_get xs k ≡ Some x → Found g ys k (f x)
found f g [] ys k x e h = absurd (none-some x h)
found f g (a ∷ xs) [] k x e h = absurd (cc)
found f g (a ∷ xs) (b ∷ ys) zero x e h =
    let same : Some a ≡ Some x = h in
    let it : a ≡ x = cc in
    let head : f a ≡ g b = cc in
    record { what = b; at = refl; is = sym (ap f it) ∙ head }
found f g (a ∷ xs) (b ∷ ys) (suc k) x e h =
    let tail : map f xs ≡ map g ys = cc in
    let rest = found f g xs ys k x tail h in
    record { what = rest.what; at = rest.at; is = rest.is }

-- where the one has nothing, nor has the other
pub missing : {A B C : Type 0} (f : A → C) (g : B → C) (xs : List A) (ys : List B) (k : ℕ) → map f xs ≡ map g ys → slice_get xs k ≡ None → slice_get ys k ≡ None
missing f g [] [] k e h = refl
missing f g [] (b ∷ ys) k e h = absurd (cc)
missing f g (a ∷ xs) [] k e h = refl
missing f g (a ∷ xs) (b ∷ ys) zero e h = absurd (none-some a (sym h))
missing f g (a ∷ xs) (b ∷ ys) (suc k) e h = let tail : map f xs ≡ map g ys = cc in missing f g xs ys k tail h
