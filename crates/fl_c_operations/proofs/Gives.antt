-- The fragments that a run of send code has still to give, where the code is found in its program.
use Rattle.std.proofs.Common.{◌≡◌, List, [], ◌∷◌, Option, Some, None, refl, subst, ◌∙◌, ap}
use Rattle.std.specs.Prelude.{slice_get, drop}
use Rattle.fl_base.specs.declared.fragment.Frag.{Frag}
use Rattle.fl_stub.specs.Code.{TheCode}
use Rattle.fl_machine.specs.Sending.{TheSending, frags_left}
use Rattle.fl_c_operations.specs.Runs.{left_at}

first_of : (xs ys : List Frag) (f : Frag) → Some f ≡ slice_get xs 0 → ys ≡ drop 1 xs → xs ≡ f ∷ ys
first_of [] ys f first rest = absurd (cc)
first_of (x ∷ xs) ys f first rest = cc

none_of : (xs : List Frag) → None ≡ slice_get xs 0 → xs ≡ []
none_of [] first = refl
none_of (x ∷ xs) first = absurd (cc)

pub gives_one : (o : Option TheCode) (code : TheCode) (s t : TheSending) (f : Frag) → Some code ≡ o → Some f ≡ slice_get (frags_left code s) 0
    → frags_left code t ≡ drop 1 (frags_left code s) → left_at o s ≡ f ∷ left_at o t
gives_one o code s t f is first rest =
    subst (λ (z : Option TheCode). left_at z s ≡ f ∷ left_at z t) is (first_of (frags_left code s) (frags_left code t) f first rest)

pub gives_none : (o : Option TheCode) (code : TheCode) (s t : TheSending) → Some code ≡ o → None ≡ slice_get (frags_left code s) 0
    → frags_left code t ≡ drop 1 (frags_left code s) → (left_at o s ≡ []) × (left_at o t ≡ [])
gives_none o code s t is first rest =
    let none = none_of (frags_left code s) first in
    subst (λ (z : Option TheCode). (left_at z s ≡ []) × (left_at z t ≡ [])) is (none, rest ∙ ap (drop 1) none)
