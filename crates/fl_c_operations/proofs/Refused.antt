-- What an end refuses a fitting call for.
use Rattle.std.proofs.Common.{◌≡◌, ◌≢◌, ℕ, true, false, List, [], ◌∷◌, Option, Some, None, refl}
use Rattle.std.specs.Prelude.{IsSome}
use Rattle.fl_base.specs.declared.fragment.Frag.{Frag}
use Rattle.fl_endpoint.specs.View.{is_circuit, are_some}

pub unbound : (o : Option ℕ) → false ≡ is_circuit o → o ≡ None
unbound None e = refl
unbound (Some circuit) e = absurd (cc)

pub bound : (o : Option ℕ) → true ≡ is_circuit o → IsSome o
bound None e = absurd (cc)
bound (Some circuit) e = refl

pub busy : (fs : List Frag) → true ≡ are_some fs → fs ≢ []
busy [] e = absurd (cc)
busy (f ∷ fs) e = λ h. absurd (cc)

pub idle : (fs : List Frag) → false ≡ are_some fs → fs ≡ []
idle [] e = refl
idle (f ∷ fs) e = absurd (cc)
