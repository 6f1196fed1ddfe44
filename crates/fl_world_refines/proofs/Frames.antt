-- What stays of a what is shown where one thing is changed: the statements. An end is named by where it stands.
use Rattle.std.specs.Prelude.{ℕ, ◌≡◌, map, slice_get, Some, None}
use Rattle.fl_base.specs.declared.identity.Side.TheVariants.{Server}
use Rattle.fl_base.specs.declared.identity.EndId.{EndId}
use Rattle.fl_base.specs.declared.identity.LinkId.{LinkId}
use Rattle.fl_base.specs.Ends.{other, peer}
use Rattle.fl_base.specs.Prefix.{IsPrefix}
use Rattle.fl_lists.specs.ThreeLists.{ThreeLists}
use Rattle.fl_link.specs.Queue.{TheQueue}
use Rattle.fl_ring.specs.Duo.{TheDuo}
use Rattle.fl_endpoint.specs.View.{TheEnd}
use Rattle.fl_core.specs.BoardView.{TheDispatcher, TheEndAtChannel, with_lists, with_end}
use Rattle.fl_monitor.specs.Monitors.{TheMonitor}
use Rattle.fl_core.specs.declared.wiring.EndWiring.TheVariants.{Queues, Circuit}
use Rattle.fl_core.specs.declared.wiring.WiredEnd.{WiredEnd}
use Rattle.fl_core.specs.View.{TheCore, place_of, with_board, with_monitor, with_arrivals}
use Rattle.fl_core.specs.Sound.{IsCore}
use Rattle.fl_model.specs.Events.{DispatcherId}
use Rattle.fl_model.specs.Calls.{Planned}
use Rattle.fl_model.specs.Rings.{Ring}
use Rattle.fl_model.specs.Ends.{Queue, Direction, Seat, End}
use Rattle.fl_model.specs.Waits.{Dispatcher}
use Rattle.fl_model.specs.Monitors.{Core, link_to}
use Rattle.fl_model.specs.State.{over_route, Route, Binding, State, binding_of, interface_of, end_in, number_between}
use Rattle.fl_model.specs.State.{core_of, dispatcher_of, change_core, change_dispatcher, change_ring, change_end, change_out, change_route, in_queue}
use Rattle.fl_world_refines.specs.Fragments.{Streams, calls_off_links}
use Rattle.fl_world_refines.specs.Ends.{outgoing_of, parts_of, EndShows}
use Rattle.fl_world_refines.specs.Queues.{QueueShows}
use Rattle.fl_world_refines.specs.Rings.{RingShows}
use Rattle.fl_world_refines.specs.Cores.{MonitorShows}
use Rattle.fl_world_refines.specs.declared.binding.Binding.{Binding as TheBinding}
use Rattle.fl_world_refines.specs.View.{TheWorld, nowhere, unmade, made, location_of, with_core, with_ring, with_queue, with_binding, keeping}
use Rattle.fl_world_refines.specs.ShowsState.{link_side_of, IsUnmade, IsWiring, IsSilent, Carries, ShowsState, Shows}

-- ---- where an end is

-- an end that is made: its binding, interface and seat in the state; in the world its place at a core, and what it is there
pub record Stands (w : TheWorld) (s : State) (e : EndId) (n place : ℕ) : Type 0 where
  pub binding : Binding
  pub binding_is : binding_of s e ≡ Some binding
  pub interface : Planned
  pub interface_is : interface_of s binding ≡ Some interface
  pub seat : Seat
  pub seat_is : (end_in e.side binding).seat ≡ Some seat
  pub core_at : seat.dispatcher.core ≡ n
  pub core : TheCore
  pub core_is : slice_get w.cores n ≡ Some core
  pub place_is : place_of core e ≡ Some place
  pub at : TheEndAtChannel
  pub at_is : slice_get core.board.seats place ≡ Some at
  pub dispatcher : at.dispatcher ≡ seat.dispatcher.place
  pub channel : at.channel ≡ seat.channel
  pub shows : EndShows interface (end_in e.side binding) (end_in (other e.side) binding).out at.end
  pub wired_end : WiredEnd
  pub wired_end_is : slice_get core.wired_ends place ≡ Some wired_end
  pub name_is : wired_end.name ≡ e
  pub wiring : IsWiring w core s e binding wired_end.wiring

-- the server's end of a circuit that isn't made yet
pub record Awaits (w : TheWorld) (s : State) (e : EndId) : Type 0 where
  pub binding : Binding
  pub binding_is : binding_of s e ≡ Some binding
  pub interface : Planned
  pub interface_is : interface_of s binding ≡ Some interface
  pub server : e.side ≡ Server
  pub route : Route
  pub back : binding.back ≡ over_route route
  pub seat : binding.server.seat ≡ None
  pub circuit : binding.server.circuit ≡ None
  pub there : TheBinding
  pub there_is : slice_get w.bindings e.binding ≡ Some there
  pub kept : IsUnmade interface binding there

abbrev pub FindsNone : Type 0
FindsNone = (w : TheWorld) (s : State) (e : EndId) → ShowsState w s → location_of w e ≡ nowhere → binding_of s e ≡ None

abbrev pub FindsUnmade : Type 0
FindsUnmade = (w : TheWorld) (s : State) (e : EndId) → Shows w s → location_of w e ≡ unmade → Awaits w s e

abbrev pub FindsMade : Type 0
FindsMade = (w : TheWorld) (s : State) (e : EndId) (n place : ℕ) → Shows w s → location_of w e ≡ made n place → Stands w s e n place

-- ---- an end is changed

-- where an end of this interface has its seat and its queue still, and what the other end has taken of its calls isn't changed
pub record EndStays (i : Planned) (x y : End) : Type 0 where
  pub seat : y.seat ≡ x.seat
  pub queue : y.queue ≡ x.queue
  pub accepted : IsPrefix x.out.accepted y.out.accepted
  pub parts : parts_of i y.out ≡ parts_of i x.out
  -- while it isn't bound it accepts nothing
  pub silent : y.circuit ≡ None → IsSilent y.out

-- so is an end that is bound
abbrev pub EndFrame : Type 0
EndFrame = (w : TheWorld) (s : State) (e : EndId) (n place : ℕ) (h : Stands w s e n place) (f : End → End) (t : TheEnd) → ShowsState w s
    → EndStays h.interface (end_in e.side h.binding) (f (end_in e.side h.binding))
    → EndShows h.interface (f (end_in e.side h.binding)) (end_in (other e.side) h.binding).out t
    → ShowsState (with_core w n (with_board h.core (with_end h.core.board place h.at t))) (change_end e f s)

abbrev pub UnmadeFrame : Type 0
UnmadeFrame = (w : TheWorld) (s : State) (e : EndId) (h : Awaits w s e) (f : End → End) (t : TheEnd) → ShowsState w s
    → EndStays h.interface h.binding.server (f h.binding.server)
    → EndShows h.interface (f h.binding.server) h.binding.client.out t
    → ShowsState (with_binding w e.binding (keeping h.there t)) (change_end e f s)

-- where a direction has still to send what it had
pub record OutStays (i : Planned) (d e : Direction) : Type 0 where
  pub accepted : e.accepted ≡ d.accepted
  pub outgoing : (circuit : ℕ) → outgoing_of circuit i e ≡ outgoing_of circuit i d

-- an end takes a fragment of the other end's calls
abbrev pub TakeFrame : Type 0
TakeFrame = (w : TheWorld) (s : State) (e : EndId) (n place : ℕ) (h : Stands w s e n place) (f : End → End) (g : Direction → Direction) (t : TheEnd)
    → ShowsState w s
    → EndStays h.interface (end_in e.side h.binding) (f (end_in e.side h.binding))
    → OutStays h.interface (end_in (other e.side) h.binding).out (g (end_in (other e.side) h.binding).out)
    → EndShows h.interface (f (end_in e.side h.binding)) (g (end_in (other e.side) h.binding).out) t
    → ShowsState (with_core w n (with_board h.core (with_end h.core.board place h.at t))) (change_end e f (change_out (peer e) g s))

-- a fragment passes a station between: no end is changed
abbrev pub PassFrame : Type 0
PassFrame = (w : TheWorld) (s : State) (e : EndId) (b : Binding) (i : Planned) (g : Direction → Direction) → ShowsState w s
    → binding_of s e ≡ Some b → interface_of s b ≡ Some i
    → OutStays i (end_in e.side b).out (g (end_in e.side b).out)
    → parts_of i (g (end_in e.side b).out) ≡ parts_of i (end_in e.side b).out
    → ShowsState w (change_out e g s)

-- ---- lists of channels, rings, queues

abbrev pub ListsFrame : Type 0
ListsFrame = (w : TheWorld) (s : State) (d : DispatcherId) (c : TheCore) (there : TheDispatcher) (x : Dispatcher) (f : Dispatcher → Dispatcher) (v : ThreeLists)
    → ShowsState w s → slice_get w.cores d.core ≡ Some c → slice_get c.board.dispatchers d.place ≡ Some there → dispatcher_of s d ≡ Some x
    → (f x).ends ≡ x.ends → v ≡ (f x).lists
    → ShowsState (with_core w d.core (with_board c (with_lists c.board d.place there v))) (change_dispatcher d f s)

abbrev pub RingFrame : Type 0
RingFrame = (w : TheWorld) (s : State) (n : ℕ) (r : Ring) (f : Ring → Ring) (t : TheDuo)
    → ShowsState w s → slice_get s.rings n ≡ Some r → ((streams : Streams) → Carries s n streams → RingShows streams (f r) t)
    → ShowsState (with_ring w n t) (change_ring n f s)

-- an end's own queue within a core
abbrev pub QueueFrame : Type 0
QueueFrame = (w : TheWorld) (s : State) (e : EndId) (n place out from : ℕ) (h : Stands w s e n place) (q : Queue) (f : Queue → Queue) (t : TheQueue)
    → ShowsState w s → h.wired_end.wiring ≡ Queues out from → (end_in e.side h.binding).queue ≡ Some q → QueueShows (calls_off_links s) (f q) t
    → ShowsState (with_queue w from t) (change_end e (in_queue f) s)

-- an end's arrival queue
abbrev pub ArrivalsFrame : Type 0
ArrivalsFrame = (w : TheWorld) (s : State) (e : EndId) (n place : ℕ) (l : LinkId) (a : ℕ) (h : Stands w s e n place) (q : Queue) (f : Queue → Queue)
    (t : TheQueue) → ShowsState w s → IsCore h.core → h.wired_end.wiring ≡ Circuit l a → (end_in e.side h.binding).queue ≡ Some q
    → QueueShows (calls_off_links s) (f q) t
    → ShowsState (with_core w n (with_arrivals h.core a t)) (change_end e (in_queue f) s)

-- ---- monitors and routes

-- the links lead where they led, over the same rings
pub record CoreStays (k l : Core) : Type 0 where
  pub dispatchers : l.dispatchers ≡ k.dispatchers
  pub link_sides : map link_side_of l.links ≡ map link_side_of k.links
  pub links : (n : ℕ) → link_to n l ≡ link_to n k

abbrev pub MonitorFrame : Type 0
MonitorFrame = (w : TheWorld) (s : State) (n : ℕ) (c : TheCore) (k : Core) (f : Core → Core) (m : TheMonitor)
    → ShowsState w s → slice_get w.cores n ≡ Some c → core_of s n ≡ Some k → CoreStays k (f k) → MonitorShows (f k) m
    → ShowsState (with_core w n (with_monitor c m)) (change_core n f s)

-- a circuit gets a number more, or the word of its answer
pub record RouteStays (f : Route → Route) : Type 0 where
  pub cores : (r : Route) → (f r).cores ≡ r.cores
  pub service : (r : Route) → (f r).service ≡ r.service
  pub numbers : (r : Route) (a b n : ℕ) → number_between a b r ≡ Some n → number_between a b (f r) ≡ Some n

abbrev pub RouteFrame : Type 0
RouteFrame = (w : TheWorld) (s : State) (n : ℕ) (f : Route → Route) → ShowsState w s → RouteStays f → ShowsState w (change_route n f s)
