-- The fragments that pass through a stream.
use Rattle.std.specs.Prelude.{not, ◌&&◌, ◌==◌, Bool, List}
use Rattle.std.specs.List.{list_all}
use Rattle.fl_base.specs.declared.fragment.Frag.{Frag}
use Rattle.fl_base.specs.Control.{is_ack_only, body}

-- a fragment of a call, with epoch 0 and nothing told: as it leaves a stub
abbrev pub is_plain : Frag → Bool
is_plain frag = not (is_ack_only frag) && (frag.control == body frag.control)

-- each of these is
abbrev pub all_plain : List Frag → Bool
all_plain frags = list_all is_plain frags
