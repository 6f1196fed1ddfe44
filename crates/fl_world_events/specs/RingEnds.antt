-- What comes of a binding over a new ring: at a core, and at the cores of its two ends.
use Rattle.std.specs.Prelude.{ℕ, ◌≡◌, ◌<◌, List, length, slice_get, slice_set, Some, None, Result, Ok}
use Rattle.fl_base.specs.declared.identity.EndId.{EndId}
use Rattle.fl_ring.specs.Duo.{TheDuo}
use Rattle.fl_ring.specs.Side.{SideTakes}
use Rattle.fl_ring.specs.declared.duo_side.DuoSide.{DuoSide}
use Rattle.fl_core.specs.BoardView.{TheEndAtChannel}
use Rattle.fl_core.specs.declared.kind.ChannelKind.TheVariants.{Ring as RingKind}
use Rattle.fl_core.specs.declared.board_fault.BoardFault.{BoardFault}
use Rattle.fl_core.specs.BoardTurns.{over}
use Rattle.fl_core.specs.View.{TheCore, place_of, arrivals_of}
use Rattle.fl_core.specs.declared.wiring.EndWiring.TheVariants.{Ring}
use Rattle.fl_core.specs.Ends.{OnBoard, RegistersAt}
use Rattle.fl_core.specs.Making.{AddsWiredEnd}
use Rattle.fl_model.specs.Events.{DispatcherId}
use Rattle.fl_world_refines.specs.Lending.{IsLent}
use Rattle.fl_world_events.specs.Parts.{InCore}
use Rattle.fl_world_events.specs.declared.by_ring.NewRingEnd.{NewRingEnd}

-- an end of this name may be added at a dispatcher: the dispatcher is there, and its core has no end of the name
pub record HasRoom (cores : List TheCore) (d : DispatcherId) (name : EndId) : Type 0 where
  pub core : TheCore
  pub core_is : slice_get cores d.core ≡ Some core
  pub there : d.place < length core.board.dispatchers
  pub new : place_of core name ≡ None

-- ---- an end at a core

-- it is added over its side of a ring, and isn't registered yet
abbrev pub AddsEnd : NewRingEnd → TheCore → ℕ → TheCore → Type 0
AddsEnd x k place k2 = AddsWiredEnd x.at.place x.end (record { name = x.name; wiring = Ring x.side }) k (Ok place) k2

-- the end at a place takes from a ring, which is lent
pub record TakesFromRing (k : TheCore) (place : ℕ) : Type 0 where
  pub seat : TheEndAtChannel
  pub seat_is : slice_get k.board.seats place ≡ Some seat
  pub kind : seat.kind ≡ RingKind
  pub lent : arrivals_of k place ≡ None

-- it is registered over side m of a ring, which is left as it was
pub record RegistersOver (m place : ℕ) (ring : TheDuo) (k k2 : TheCore) : Type 0 where
  pub side : DuoSide
  pub lent : IsLent m ring side
  pub answer : Result (Unit {0}) BoardFault
  pub registers : OnBoard k (λ b c. RegistersAt SideTakes place (over b side) answer (over c side)) k2

-- an end is added, and then registered
pub record Joins (x : NewRingEnd) (ring : TheDuo) (k k2 : TheCore) : Type 0 where
  pub place : ℕ
  pub added : TheCore
  pub adds : AddsEnd x k place added
  pub registers : RegistersOver x.side place ring added k2

-- ---- both ends, at two cores

pub record JoinsBoth (x y : NewRingEnd) (ring : TheDuo) (cores cores2 : List TheCore) : Type 0 where
  pub first : TheCore
  pub first_is : slice_get cores x.at.core ≡ Some first
  pub first_after : TheCore
  pub client : InCore (Joins x ring) first first_after
  pub second : TheCore
  pub second_is : slice_get cores y.at.core ≡ Some second
  pub second_after : TheCore
  pub server : InCore (Joins y ring) second second_after
  pub rest : cores2 ≡ slice_set (slice_set cores x.at.core first_after) y.at.core second_after
