-- The fragments of one circuit among others, as a circuit carries them.
use Rattle.std.specs.Prelude.{ℕ, ◌==◌, if◌then◌else◌, List, [], ◌∷◌}
use Rattle.fl_base.specs.declared.fragment.Frag.{Frag}
use Rattle.fl_base.specs.Control.{circuit_of, with_circuit, bare}
use Rattle.fl_link.specs.Calls.{calls_only}

-- what a circuit carries unchanged: the fragment with its circuit, its epoch and the count told set aside
abbrev pub as_carried : Frag → Frag
as_carried frag = bare (with_circuit 0 frag)

-- the fragments with circuit c in their control words, in order, as they are carried
abbrev pub with_number : ℕ → List Frag → List Frag
with_number c [] = []
with_number c (frag ∷ frags) = if circuit_of frag.control == c then as_carried frag ∷ with_number c frags else with_number c frags

-- the fragments of circuit c: those that only acknowledge are of no circuit
abbrev pub of_circuit : ℕ → List Frag → List Frag
of_circuit c frags = with_number c (calls_only frags)
