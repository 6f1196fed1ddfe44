-- A side of a ring that has seen what stands first: that is told again without a look.
use Rattle.std.specs.Prelude.{◌≡◌, false, Option, Some, None}
use Rattle.fl_base.specs.declared.fragment.Frag.{Frag}
use Rattle.fl_base.specs.Control.{bare, is_ack_only}
use Rattle.fl_link.specs.Looks.{Look, no_room, saw, found, told, kept}
use Rattle.fl_endpoint.specs.View.{TheEnd}
use Rattle.fl_endpoint.specs.Events.{IsOpen}
use Rattle.fl_ring.specs.SharedSeats.{front_seen}
use Rattle.fl_ring.specs.SharedSides.{TheSide, SharedTakes}

-- a side, and the fragment of a call that it has seen standing first
pub record TheLooked : Type 0 where
  pub side : TheSide
  pub seen : Option Frag

-- the fragment that a side has seen is a call's, and stands first there
abbrev pub IsSeen : Option Frag → TheSide → Type 0
IsSeen None side = Unit {0}
IsSeen (Some frag) side = (front_seen side.peeked ≡ saw (bare frag)) × (is_ack_only frag ≡ false)

-- one look, take or tell, by what it came to: a look at a side that has seen a fragment is none
abbrev pub SeenTakes : Option Frag → TheSide → Look → Option Frag → TheSide → Type 0
SeenTakes None p look seen q = SharedTakes p look q × (seen ≡ None)
SeenTakes (Some frag) p (saw f) seen q = (f ≡ bare frag) × (q ≡ p) × (seen ≡ Some frag)
SeenTakes (Some frag) p (found f) seen q = SharedTakes p (found f) q × (seen ≡ None)
SeenTakes (Some frag) p told seen q = SharedTakes p told q × (seen ≡ None)
SeenTakes (Some frag) p kept seen q = SharedTakes p kept q × (seen ≡ None)
SeenTakes (Some frag) p no_room seen q = SharedTakes p no_room q × (seen ≡ None)
SeenTakes (Some frag) p look seen q = ⊥

-- what a receive must have that is not to look again: a side that has seen nothing and is as it was, or one that has seen what stands
-- first, of an end that takes it
abbrev pub IsAfterLook : TheEnd → TheSide → Option Frag → TheSide → Type 0
IsAfterLook s p None q = q ≡ p
IsAfterLook s p (Some frag) q = IsOpen s × SharedTakes p (saw (bare frag)) q
