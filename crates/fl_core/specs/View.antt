-- A whole core, as contracts see it: what it has, where things are found in it, and what changes it by one thing.
use Rattle.std.specs.Prelude.{ℕ, ◌+◌, ◌*◌, nat_lt, if◌then◌else◌, true, false, List, [], ◌∷◌, ◌++◌, length}
use Rattle.std.specs.Prelude.{replicate, slice_get, slice_set, slice_index_or}
use Rattle.std.specs.Prelude.{Option, Some, None}
use Rattle.fl_base.specs.declared.identity.Side.{Side}
use Rattle.fl_base.specs.declared.identity.Side.TheVariants.{Client, Server}
use Rattle.fl_base.specs.declared.identity.EndId.{EndId}
use Rattle.fl_base.specs.declared.identity.LinkId.{LinkId}
use Rattle.fl_base.specs.declared.identity.Circuit.{Circuit as Number}
use Rattle.fl_base.specs.Ends.{peer}
use Rattle.fl_base.specs.Given.{given}
use Rattle.fl_base.specs.Numbered.{most_bindings}
use Rattle.fl_link.specs.Queue.{TheQueue}
use Rattle.fl_core.specs.BoardView.{TheBoard}
use Rattle.fl_core.specs.declared.kind.ChannelKind.{ChannelKind}
use Rattle.fl_core.specs.declared.kind.ChannelKind.TheVariants as kind
use Rattle.fl_monitor.specs.Monitors.{TheMonitor, fresh_monitor}
use Rattle.fl_core.specs.declared.wiring.EndWiring.{EndWiring}
use Rattle.fl_core.specs.declared.wiring.EndWiring.TheVariants.{Queues, Ring, Circuit}
use Rattle.fl_core.specs.declared.wiring.Outlet.{Outlet}
use Rattle.fl_core.specs.declared.wiring.Outlet.TheVariants as outlet
use Rattle.fl_core.specs.declared.wiring.Inlet.{Inlet}
use Rattle.fl_core.specs.declared.wiring.Inlet.TheVariants as inlet
use Rattle.fl_core.specs.declared.wiring.WiredEnd.{WiredEnd}
use Rattle.fl_core.specs.declared.wiring.LinkSide.{LinkSide}
use Rattle.fl_core.specs.declared.wiring.ArrivalPlace.{ArrivalPlace}

-- ---- a core

pub record TheCore : Type 0 where
  -- its dispatchers and their ends, by their places
  pub board : TheBoard
  -- its circuits, and by link what its monitor has still to say
  pub monitor : TheMonitor
  -- of each end on the board its name and its wiring, in the same order
  pub wired_ends : List WiredEnd
  -- by name where an end is on the board: that of side s of binding b stands at 2 b + s
  pub places : List (Option ℕ)
  -- of each link the core's side of its ring, and whether what comes there has failed, in the same order as in the monitor
  pub link_sides : List LinkSide
  -- the arrival queues of the ends of circuits
  pub arrivals : List TheQueue

-- a core without links, dispatchers and ends
abbrev pub fresh_core : ℕ → TheCore
fresh_core core = record {
  board = record { dispatchers = []; seats = [] };
  monitor = fresh_monitor core;
  wired_ends = [];
  places = replicate 2048 None;
  link_sides = [];
  arrivals = [];
}

-- the arrival queue of a new end: 16 slots, each free once its fragment is taken
abbrev pub new_arrivals : TheQueue
new_arrivals = record { items = []; unacknowledged = 0; sent = 0; capacity = 16; acked = false }

-- a circuit's number, if there is one
abbrev pub number_in : Option Number → Option ℕ
number_in None = None
number_in (Some c) = Some c.0

-- ---- where an end is

abbrev pub side_number : Side → ℕ
side_number Client = 0
side_number Server = 1

abbrev pub slot_of : EndId → ℕ
slot_of e = 2 * e.binding + side_number e.side

-- where the end of a name is on the board, if it is at this core
abbrev pub place_in : List (Option ℕ) → EndId → Option ℕ
place_in places e = if nat_lt e.binding most_bindings then slice_index_or places (slot_of e) None else None

abbrev pub place_of : TheCore → EndId → Option ℕ
place_of k e = place_in k.places e

-- the ends of a binding
abbrev pub client_of : ℕ → EndId
client_of binding = record { binding = binding; side = Client }

abbrev pub server_of : ℕ → EndId
server_of binding = record { binding = binding; side = Server }

-- ---- which sides an end uses

-- how fragments come to an end with such a wiring
abbrev pub kind_of : EndWiring → ChannelKind
kind_of (Queues out from) = kind.Queue
kind_of (Ring side) = kind.Ring
kind_of (Circuit link arrivals) = kind.Queue

-- the core's side of a link's ring
abbrev pub side_of_link : List LinkSide → ℕ → Option ℕ
side_of_link link_sides l = given (slice_get link_sides l) None λ link_side. Some link_side.side

-- where an end with such a wiring puts: to a queue, to the ring's side, or to the side of the circuit's link
abbrev pub outlet_by : List LinkSide → EndWiring → Option Outlet
outlet_by link_sides (Queues out from) = Some (outlet.Queue out)
outlet_by link_sides (Ring side) = Some (outlet.Side side)
outlet_by link_sides (Circuit link arrivals) = given (side_of_link link_sides link.0) None λ side. Some (outlet.Side side)

-- where it takes from: a queue, the ring's side, or its own arrival queue
abbrev pub inlet_by : EndWiring → Inlet
inlet_by (Queues out from) = inlet.Queue from
inlet_by (Ring side) = inlet.Side side
inlet_by (Circuit link arrivals) = inlet.Arrivals

-- its arrival queue, by its place among those of the core
abbrev pub arrivals_by : EndWiring → Option ℕ
arrivals_by (Queues out from) = None
arrivals_by (Ring side) = None
arrivals_by (Circuit link arrivals) = Some arrivals

-- the same of the end at place e on the board
abbrev pub outlet_of : TheCore → ℕ → Option Outlet
outlet_of k e = given (slice_get k.wired_ends e) None λ p. outlet_by k.link_sides p.wiring

abbrev pub inlet_of : TheCore → ℕ → Option Inlet
inlet_of k e = given (slice_get k.wired_ends e) None λ p. Some (inlet_by p.wiring)

abbrev pub arrivals_of : TheCore → ℕ → Option ℕ
arrivals_of k e = given (slice_get k.wired_ends e) None λ p. arrivals_by p.wiring

abbrev pub arriving : ℕ → ℕ → ArrivalPlace
arriving e a = record { end = e; queue = a }

-- where fragments for the end of a name arrive, if it is at this core and on a circuit
abbrev pub arriving_at : TheCore → EndId → Option ArrivalPlace
arriving_at k name =
    given (place_of k name) None λ e.
    given (arrivals_of k e) None λ a.
    Some (arriving e a)

-- the end that the end at place e puts to, where the two are joined by queues
abbrev pub joined_by : TheCore → EndId → EndWiring → Option ℕ
joined_by k name (Queues out from) = place_of k (peer name)
joined_by k name (Ring side) = None
joined_by k name (Circuit link arrivals) = None

abbrev pub joined_to : TheCore → ℕ → Option ℕ
joined_to k e = given (slice_get k.wired_ends e) None λ p. joined_by k p.name p.wiring

-- ---- one thing changed

abbrev pub with_board : TheCore → TheBoard → TheCore
with_board k b = record k { board = b }

abbrev pub with_monitor : TheCore → TheMonitor → TheCore
with_monitor k m = record k { monitor = m }

-- another arrival queue at a place
abbrev pub with_arrivals : TheCore → ℕ → TheQueue → TheCore
with_arrivals k a q = record k { arrivals = slice_set k.arrivals a q }

-- one end more, at place e on this board
abbrev pub with_wired_end : TheCore → TheBoard → ℕ → WiredEnd → TheCore
with_wired_end k b e p = record k {
  board = b;
  wired_ends = k.wired_ends ++ p ∷ [];
  places = slice_set k.places (slot_of p.name) (Some e);
}

-- the wired end of an end of a circuit on this link, with its arrival queue
abbrev pub circuit_wired_end : EndId → LinkId → ℕ → WiredEnd
circuit_wired_end name l a = record { name = name; wiring = Circuit l a }

-- one end of a circuit more, whose arrival queue is the next one
abbrev pub with_circuit_wired_end : TheCore → TheBoard → ℕ → EndId → LinkId → TheCore
with_circuit_wired_end k b e name l =
    record (with_wired_end k b e (circuit_wired_end name l (length k.arrivals))) { arrivals = k.arrivals ++ new_arrivals ∷ [] }

-- what comes on link l has failed for good
abbrev pub failed_at : List LinkSide → ℕ → List LinkSide
failed_at link_sides l = given (slice_get link_sides l) link_sides λ link_side. slice_set link_sides l (record { side = link_side.side; failed = true })

abbrev pub with_failed : TheCore → ℕ → TheCore
with_failed k l = record k { link_sides = failed_at k.link_sides l }
