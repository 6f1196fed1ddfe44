-- Equal views and equal elements.
use Rattle.std.proofs.Common.{◌≡◌, ℕ, ◌<◌, List, [], ◌∷◌, map, get_or, length, sym, ap, ◌∙◌, refl}
use Rattle.std.proofs.lemmas.List.{get_or-map}
use Rattle.fl_interface.specs.Interface.{TheType, fields_from}

-- lists whose views are equal have elements of equal views at each index
pub same_there : {A : Type 0} {B : Type 0} (f : A → B) (xs ys : List A) (k : ℕ) (x y : A) → k < length xs → k < length ys → ((d : A) → x ≡ get_or xs k d) → ((d : A) → y ≡ get_or ys k d) → map f xs ≡ map f ys → f x ≡ f y
same_there f xs ys k x y a b p q e =
    ap f (p x) ∙ sym (get_or-map f xs k x (f x) a) ∙ ap (λ l. get_or l k (f x)) e ∙ get_or-map f ys k y (f x) b ∙ ap f (sym (q y))

pub fields_from_injective : (xs ys : List TheType) → fields_from xs ≡ fields_from ys → xs ≡ ys
fields_from_injective [] [] e = refl
fields_from_injective [] (y ∷ ys) e = cc
fields_from_injective (x ∷ xs) [] e = cc
fields_from_injective (x ∷ xs) (y ∷ ys) e = let t : fields_from xs ≡ fields_from ys = cc in let h : x ≡ y = cc in let r = fields_from_injective xs ys t in cc
