-- What an end takes at its first look, where no call is under way.
use Rattle.std.specs.Prelude.{◌≡◌, ℕ, true, Bool, List, Option, IsSome}
use Rattle.fl_base.specs.declared.fragment.Frag.{Frag}
use Rattle.fl_base.specs.Control.{bare}
use Rattle.fl_link.specs.Looks.{saw, saw_ack, found, found_ack, missed}
use Rattle.fl_ring.specs.SharedSides.{TheSide, SharedTakes}
use Rattle.fl_codec.specs.Codecs.{numbers_of}
use Rattle.fl_endpoint.specs.View.{TheEnd}
use Rattle.fl_endpoint.specs.Events.{IsOpen}
use Rattle.fl_c_operations.specs.Transmissions.{IsShortAt}
use Rattle.fl_c_operations.specs.Seen.{IsAfterLook}
use Rattle.fl_c_operations.specs.declared.glance.Glance.{Glance}
use Rattle.fl_c_operations.specs.declared.glance.Glance.TheVariants.{Nothing, Acknowledgement, Short, Untaken}

-- the fragment that stands first is taken: the only one of a call of this message and tape, to which there is no reply by rule
abbrev pub TakesShort : TheEnd → TheSide → ℕ → List ℕ → TheSide → Type 0
TakesShort s p msg tape q = IsOpen s
    × ((f : Frag) × (m : TheSide) × (bare f ≡ f) × SharedTakes p (saw f) m × SharedTakes m (found f) q × IsShortAt s msg tape f)

-- what a first look came to; `between` says that no call is under way
abbrev pub Glances : TheEnd → Bool → TheSide → Glance → Option Frag → TheSide → Type 0
-- nothing stands there
Glances s between p Nothing seen q = IsOpen s × SharedTakes p missed q
-- a fragment that only acknowledges was taken
Glances s between p Acknowledgement seen q = IsOpen s × ((m : TheSide) × SharedTakes p saw_ack m × SharedTakes m found_ack q)
-- the only fragment of this call was taken
Glances s between p (Short call) seen q = (between ≡ true) × TakesShort s p call.msg.0 (numbers_of call.numbers) q
-- no fragment was taken; the receive that follows must not look again
Glances s between p Untaken seen q = IsAfterLook s p seen q × (IsSome seen → between ≡ true)
