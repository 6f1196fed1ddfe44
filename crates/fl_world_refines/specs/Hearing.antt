-- A working file, on which no public promise rests by itself: the law of a message that a core hears, on which the law of forwarding stands.
use Rattle.std.specs.Prelude.{◌≡◌, Some}
use Rattle.fl_base.specs.declared.fragment.Frag.{Frag}
use Rattle.fl_base.specs.Control.{bare}
use Rattle.fl_ring.specs.Duo.{TheDuo}
use Rattle.fl_monitor.specs.Intermon.{HasWidths}
use Rattle.fl_model.specs.Events.{Answer}
use Rattle.fl_model.specs.Rings.{MonitorLabel, says, RingLabel, looks}
use Rattle.fl_model.specs.State.{State, first_on, change_ring}
use Rattle.fl_model.specs.Forwarding.{LinkEnd, link_end, forwards_said}
use Rattle.fl_world_refines.specs.Fragments.{said_frag, message_of}
use Rattle.fl_world_refines.specs.View.{TheWorld, side_number, with_ring}
use Rattle.fl_world_refines.specs.ShowsState.{ShowsState, Shows}
use Rattle.fl_world_refines.specs.Linking.{LinkNumbers as TheLinkEnd, HearsFirst}
use Rattle.fl_world_refines.specs.Laws.{Agrees}

-- a message stands first for a core on a link, as this fragment
pub record IsMessage (s : State) (here : LinkEnd) (m : MonitorLabel) (frag : Frag) : Type 0 where
  pub here_is : link_end here.core here.neighbour s ≡ Some here
  pub first : RingLabel
  pub first_is : first_on here.ring s ≡ Some first
  pub label : first.label ≡ says m
  pub frag_is : bare frag ≡ said_frag m
  pub widths : HasWidths (message_of m)

-- the link and the core's side of its ring
abbrev pub link_side_of_end : LinkEnd → TheLinkEnd
link_side_of_end here = record { link = here.link; side = side_number here.ring }

-- the state and the world once the core has looked at the link
abbrev pub looked : LinkEnd → State → State
looked here s = change_ring here.ring.ring (looks here.ring.side) s

abbrev pub with_look : LinkEnd → TheDuo → TheWorld → TheWorld
with_look here d w = with_ring w here.ring.ring d

-- where the link was looked at, what the message comes to in the world agrees with what it comes to in the machine
abbrev pub HearsAgrees : Type 0
HearsAgrees = (w w2 : TheWorld) (s : State) (here : LinkEnd) (m : MonitorLabel) (frag : Frag) (d : TheDuo) (a : Answer) → Shows w s → IsMessage s here m frag
    → ShowsState (with_look here d w) (looked here s) → HearsFirst here.core (link_side_of_end here) frag (with_look here d w) a w2
    → Agrees (forwards_said here m (looked here s)) a w2
