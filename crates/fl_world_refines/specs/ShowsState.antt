-- When a world is what is shown of a state of the machine: each part is what is shown of the part that it stands for. A world
-- stores no history, so these parts are all.
use Rattle.std.specs.Prelude.{ℕ, ◌≡◌, ◌-◌, ◌⊎◌, false, List, [], length, map, slice_get, slice_index, Option, Some, None}
use Rattle.fl_base.specs.declared.identity.EndId.{EndId}
use Rattle.fl_base.specs.Ends.{other, peer}
use Rattle.fl_base.specs.Given.{given}
use Rattle.fl_link.specs.Queue.{TheQueue}
use Rattle.fl_ring.specs.Duo.{TheDuo}
use Rattle.fl_endpoint.specs.View.{TheEnd}
use Rattle.fl_core.specs.BoardView.{TheDispatcher, TheEndAtChannel}
use Rattle.fl_core.specs.View.{TheCore, place_of, side_of_link}
use Rattle.fl_core.specs.declared.wiring.EndWiring.{EndWiring}
use Rattle.fl_core.specs.declared.wiring.EndWiring.TheVariants.{Queues, Ring as OverRing, Circuit}
use Rattle.fl_core.specs.declared.wiring.LinkSide.{LinkSide}
use Rattle.fl_core.specs.declared.wiring.WiredEnd.{WiredEnd}
use Rattle.fl_model.specs.Calls.{Planned}
use Rattle.fl_model.specs.Rings.{Ring, RingEnd}
use Rattle.fl_model.specs.Ends.{Queue, Direction, Seat, End}
use Rattle.fl_model.specs.Waits.{Dispatcher}
use Rattle.fl_model.specs.Monitors.{Core, Link, Service, service_of}
use Rattle.fl_model.specs.State.{local, over_ring, over_route, Route, Binding, State, end_in, own_ring, link_between}
use Rattle.fl_model.specs.State.{outlet_by, ring_side, binding_of, interface_of, end_of}
use Rattle.fl_model.specs.Making.{count_dispatchers}
use Rattle.fl_model.specs.Binding.{arrival_queue}
use Rattle.fl_model.specs.Sound.{Sound}
use Rattle.fl_world_refines.specs.Fragments.{Streams, calls_off_links, calls_between}
use Rattle.fl_world_refines.specs.FragmentLaws.{InterfacesKeepLimits}
use Rattle.fl_world_refines.specs.Ends.{planned_of, EndShows}
use Rattle.fl_world_refines.specs.Queues.{QueueShows}
use Rattle.fl_world_refines.specs.Rings.{RingShows}
use Rattle.fl_world_refines.specs.Cores.{MonitorShows, NamesShow}
use Rattle.fl_world_refines.specs.declared.binding.Binding.{Binding as TheBinding}
use Rattle.fl_world_refines.specs.View.{TheWorld, side_number, side_at, core_in}

-- ---- cores

-- a link's link side: the core's side of its ring, on which nothing failed
abbrev pub link_side_of : Link → LinkSide
link_side_of link = record { side = side_number link.ring; failed = false }

-- the name of the end at a place of a core's board
abbrev pub name_at : TheCore → ℕ → Option EndId
name_at c place = given (slice_get c.wired_ends place) None λ p. Some p.name

-- the same channels wait, and each is the same end's
pub record DispatcherShows (c : TheCore) (x : Dispatcher) (d : TheDispatcher) : Type 0 where
  pub lists : d.lists ≡ x.lists
  pub ends : map (name_at c) d.ends ≡ map (λ e. Some e) x.ends

-- the monitor, the links and the dispatchers of a core; of its ends `EndsShow` tells
pub record CoreShows (k : Core) (c : TheCore) : Type 0 where
  pub monitor : MonitorShows k c.monitor
  pub link_sides : c.link_sides ≡ map link_side_of k.links
  pub count : length c.board.dispatchers ≡ length k.dispatchers
  pub dispatchers : (n : ℕ) (x : Dispatcher) (d : TheDispatcher) → slice_get k.dispatchers n ≡ Some x
      → slice_get c.board.dispatchers n ≡ Some d → DispatcherShows c x d

-- as many cores, and each is what is shown of the one at its place
pub record CoresShow (w : TheWorld) (s : State) : Type 0 where
  pub count : length w.cores ≡ length s.cores
  pub each : (n : ℕ) (k : Core) (c : TheCore) → slice_get s.cores n ≡ Some k → slice_get w.cores n ≡ Some c → CoreShows k c

-- ---- an end that is made: at its core, in its dispatcher's channel, wired by how its binding is joined

-- a queue of this list is what is shown of the end's own
pub record TakesFrom (queues : List TheQueue) (s : State) (x : End) (place : ℕ) : Type 0 where
  pub queue : Queue
  pub queue_is : x.queue ≡ Some queue
  pub there : TheQueue
  pub there_is : slice_get queues place ≡ Some there
  pub shows : QueueShows (calls_off_links s) queue there

-- the wiring of the end of this name, at some place of the core's board
abbrev pub wiring_of : TheCore → EndId → Option EndWiring
wiring_of c e =
    given (place_of c e) None λ place.
    given (slice_get c.wired_ends place) None λ p. Some p.wiring

-- the core names a side of a ring: as that of a link, or as that of an end
abbrev pub NamesSide : TheCore → ℕ → Type 0
NamesSide c side = ((l : ℕ) × (side_of_link c.link_sides l ≡ Some side)) ⊎ ((e : EndId) × (wiring_of c e ≡ Some (OverRing side)))

-- and a queue: as that which an end puts to, or as that which an end takes from
abbrev pub NamesQueue : TheCore → ℕ → Type 0
NamesQueue c queue =
    ((e : EndId) × (from : ℕ) × (wiring_of c e ≡ Some (Queues queue from)))
    ⊎ ((e : EndId) × (out : ℕ) × (wiring_of c e ≡ Some (Queues out queue)))

-- the wiring of an end at core c joins it as its binding is joined in the machine
abbrev pub IsWiring : TheWorld → TheCore → State → EndId → Binding → EndWiring → Type 0
-- by queues an end takes from its own, and puts to that from which the other end takes
IsWiring w c s e b (Queues out from) =
    (b.back ≡ local) × TakesFrom w.queues s (end_in e.side b) from × (wiring_of c (peer e) ≡ Some (Queues from out))
IsWiring w c s e b (OverRing side) = (at : RingEnd) × (own_ring e.side b.back ≡ Some at) × (side ≡ side_number at)
-- on a circuit it puts to the first link of its way, and takes from an arrival queue of the core
IsWiring w c s e b (Circuit link arrivals) =
    ((m : ℕ) × (side_of_link c.link_sides link.0 ≡ Some m) × (outlet_by s e.side b.back ≡ Some (ring_side (side_at m))))
    × TakesFrom c.arrivals s (end_in e.side b) arrivals

-- an end with this seat: on its core's board, what is shown of the machine's end, under its name, and so wired
pub record IsMade (w : TheWorld) (s : State) (e : EndId) (b : Binding) (i : Planned) (seat : Seat) : Type 0 where
  pub core : TheCore
  pub core_is : slice_get w.cores seat.dispatcher.core ≡ Some core
  pub place : ℕ
  pub place_is : place_of core e ≡ Some place
  pub at : TheEndAtChannel
  pub at_is : slice_get core.board.seats place ≡ Some at
  pub dispatcher : at.dispatcher ≡ seat.dispatcher.place
  pub channel : at.channel ≡ seat.channel
  pub shows : EndShows i (end_in e.side b) (end_in (other e.side) b).out at.end
  pub wired_end : WiredEnd
  pub wired_end_is : slice_get core.wired_ends place ≡ Some wired_end
  pub name_is : wired_end.name ≡ e
  pub wiring : IsWiring w core s e b wired_end.wiring

-- the end of this name has its seat at a dispatcher of core n
abbrev pub SitsAt : State → EndId → ℕ → Type 0
SitsAt s e n = (x : End) × ((seat : Seat) × (end_of s e ≡ Some x) × (x.seat ≡ Some seat) × (seat.dispatcher.core ≡ n))

-- each end with a seat is made, and nothing else is at a core; no two take from one queue
pub record EndsShow (w : TheWorld) (s : State) : Type 0 where
  pub made : (e : EndId) (b : Binding) (i : Planned) (seat : Seat) → binding_of s e ≡ Some b → interface_of s b ≡ Some i
      → (end_in e.side b).seat ≡ Some seat → IsMade w s e b i seat
  pub only : (n : ℕ) (c : TheCore) (e : EndId) (place : ℕ) → slice_get w.cores n ≡ Some c → place_of c e ≡ Some place → SitsAt s e n
  pub apart : (n m : ℕ) (c d : TheCore) (e f : EndId) (x y q : ℕ) → slice_get w.cores n ≡ Some c → slice_get w.cores m ≡ Some d
      → wiring_of c e ≡ Some (Queues x q) → wiring_of d f ≡ Some (Queues y q) → e ≡ f

-- ---- bindings

-- the server's end of a circuit, before it is made
pub record IsUnmade (i : Planned) (b : Binding) (there : TheBinding) : Type 0 where
  pub end : TheEnd
  pub end_is : there.unmade ≡ Some end
  pub shows : EndShows i b.server b.client.out end
  pub queue : b.server.queue ≡ Some arrival_queue

-- the core of each end, or the one at which it will be made
pub record BindingShows (s : State) (n : ℕ) (b : Binding) (there : TheBinding) : Type 0 where
  pub interface : there.interface ≡ b.interface
  pub seated : (e : EndId) (seat : Seat) → e.binding ≡ n → (end_in e.side b).seat ≡ Some seat → core_in e.side there ≡ seat.dispatcher.core
  -- the last core of a route, which the service offers this interface from
  pub routed : (route : Route) → b.back ≡ over_route route → there.server ≡ slice_index route.cores (length route.cores - 1)
  pub offered : (route : Route) (x : Service) → b.back ≡ over_route route → service_of s.services route.service ≡ Some x
      → x.interface ≡ b.interface
  pub unmade : (i : Planned) → interface_of s b ≡ Some i → b.server.seat ≡ None → IsUnmade i b there

-- no call was accepted, and no reply waits
pub record IsSilent (d : Direction) : Type 0 where
  pub accepted : d.accepted ≡ []
  pub waiting : d.waiting ≡ []

-- as many bindings, and each is what is shown of the one at its place
pub record BindingsShow (w : TheWorld) (s : State) : Type 0 where
  pub count : length w.bindings ≡ length s.bindings
  pub each : (n : ℕ) (b : Binding) (there : TheBinding) → slice_get s.bindings n ≡ Some b → slice_get w.bindings n ≡ Some there
      → BindingShows s n b there
  -- an end that isn't bound has accepted nothing
  pub silent : (e : EndId) (x : End) → end_of s e ≡ Some x → x.circuit ≡ None → IsSilent x.out

-- ---- rings

-- whose fragments ring n carries: on the link between two cores those of circuits, under their numbers there; on a binding's
-- ring those of its two ends
abbrev pub Carries : State → ℕ → Streams → Type 0
Carries s n streams =
    ((a : ℕ) × (b : ℕ) × (link : Link) × (link_between s a b ≡ Some link) × (link.ring.ring ≡ n) × (streams ≡ calls_between a b s))
    ⊎ ((m : ℕ) × (b : Binding) × (slice_get s.bindings m ≡ Some b) × (b.back ≡ over_ring n) × (streams ≡ calls_off_links s))

-- as many rings, and each, by the fragments that it carries, is what is shown of the one at its place
pub record RingsShow (w : TheWorld) (s : State) : Type 0 where
  pub count : length w.rings ≡ length s.rings
  pub each : (n : ℕ) (r : Ring) (d : TheDuo) (streams : Streams) → slice_get s.rings n ≡ Some r → slice_get w.rings n ≡ Some d
      → Carries s n streams → RingShows streams r d

-- ---- the whole

-- each part of the world is what is shown of that part of the state, which needn't be sound
pub record ShowsState (w : TheWorld) (s : State) : Type 0 where
  pub may_set_cores : w.may_set_cores ≡ s.may_set_cores
  pub cores : CoresShow w s
  pub dispatchers : w.dispatchers ≡ count_dispatchers s
  pub programs : map planned_of w.programs ≡ s.interfaces
  -- programs are within limits; the machine takes any interface
  pub limits : InterfacesKeepLimits s
  pub names : NamesShow s.services w.names
  pub rings : RingsShow w s
  pub bindings : BindingsShow w s
  pub ends : EndsShow w s

-- a world shows a sound state
pub record Shows (w : TheWorld) (s : State) : Type 0 where
  pub sound : Sound s
  pub showing : ShowsState w s
