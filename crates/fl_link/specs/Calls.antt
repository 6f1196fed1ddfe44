-- The fragments of calls, among fragments that only acknowledge.
use Rattle.std.specs.Prelude.{not, List, map}
use Rattle.std.specs.List.{filter}
use Rattle.fl_base.specs.declared.fragment.Frag.{Frag}
use Rattle.fl_base.specs.Control.{is_ack_only, bare}

-- the fragments of calls, in order: those that only acknowledge are left out
abbrev pub calls_only : List Frag → List Frag
calls_only frags = filter (λ frag. not (is_ack_only frag)) frags

-- the same, with what links write set aside
abbrev pub bare_calls : List Frag → List Frag
bare_calls frags = calls_only (map bare frags)
