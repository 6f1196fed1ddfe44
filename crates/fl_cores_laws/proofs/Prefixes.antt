-- Prefixes.
use Rattle.std.proofs.Common.{◌≡◌, refl, sym, ap, ◌∙◌, List, [], ◌∷◌, ◌++◌}
use Rattle.std.specs.List.{flat_map}
use Rattle.std.proofs.lemmas.List.{append-nil, append_assoc}
use Rattle.std.proofs.lemmas.List.Concat.{flat_map-append}
use Rattle.fl_base.specs.Prefix.{IsPrefix}

pub itself : {X : Type 0} (xs ys : List X) → ys ≡ xs → IsPrefix xs ys
itself xs ys same = ([], same ∙ sym (append-nil xs))

pub then_on : {X : Type 0} (xs ys zs : List X) → IsPrefix xs ys → IsPrefix ys zs → IsPrefix xs zs
then_on xs ys zs p q = (p.0 ++ q.0, q.1 ∙ ap (λ vs. vs ++ q.0) p.1 ∙ append_assoc xs p.0 q.0)

pub as_same : {X : Type 0} (xs xs2 ys ys2 : List X) → xs ≡ xs2 → ys ≡ ys2 → IsPrefix xs ys → IsPrefix xs2 ys2
as_same xs xs2 ys ys2 same same2 p = (p.0, sym same2 ∙ p.1 ∙ ap (λ vs. vs ++ p.0) same)

pub of_flat : {X Y : Type 0} (f : X → List Y) (xs ys : List X) → IsPrefix xs ys → IsPrefix (flat_map f xs) (flat_map f ys)
of_flat f xs ys p = (flat_map f p.0, ap (flat_map f) p.1 ∙ flat_map-append f xs p.0)

pub of_none : {X : Type 0} (xs ys : List X) → IsPrefix xs ys → ys ≡ [] → xs ≡ []
of_none [] ys p none = refl
of_none (x ∷ xs) ys p none = let clash : [] ≡ x ∷ (xs ++ p.0) = sym none ∙ p.1 in absurd (cc)
