-- The state of the whole machine, where things are found in it, and what changes it by one thing.
use Rattle.std.specs.Prelude.{ℕ, ◌+◌, drop, ◌==◌, min, Bool, true, List, [], ◌∷◌, length, reverse, position}
use Rattle.std.specs.Prelude.{slice_get}
use Rattle.std.specs.Prelude.{Option, Some, None}
use Rattle.fl_base.specs.declared.identity.Side.{Side}
use Rattle.fl_base.specs.declared.identity.Side.TheVariants.{Client, Server}
use Rattle.fl_base.specs.declared.identity.EndId.{EndId}
use Rattle.fl_base.specs.Given.{given}
use Rattle.fl_model.specs.Given.{changed_at}
use Rattle.fl_model.specs.Events.{DispatcherId, Answer}
use Rattle.fl_model.specs.Calls.{Planned}
use Rattle.fl_model.specs.Rings.{Label, Ring, RingSide, first_side, second_side, RingEnd, Room, no_room}
use Rattle.fl_model.specs.Rings.{room}
use Rattle.fl_model.specs.Rings.{makes_sure, RingLabel, first_for}
use Rattle.fl_model.specs.Ends.{Queue, joined_by, Direction, Seat, End}
use Rattle.fl_model.specs.Waits.{Dispatcher, waits_in, registers, triggers, with_end}
use Rattle.fl_model.specs.Monitors.{Link, Core, fresh_core, Service, link_to}

-- ---- bindings

-- what a circuit's opening came to, and how many cores of the route still wait for the word
pub data OpeningVerdict : Type 0 where
  undecided : OpeningVerdict
  granted : ℕ → OpeningVerdict
  -- for this fault
  denied : ℕ → ℕ → OpeningVerdict

-- a binding's circuit: over which cores, to which service, and how far its opening has come
pub record Route : Type 0 where
  -- the service, by its interface reference
  pub service : ℕ
  -- the cores, the client's first
  pub cores : List ℕ
  -- the circuit's number on each link of the route so far, and the answer: history, which no step looks at
  -- but to find the number that a label's fragment carries
  pub numbers : List ℕ
  pub verdict : OpeningVerdict

-- how a binding's two ends are joined: by queues on one core, by a ring, or by a circuit
pub data Back : Type 0 where
  local : Back
  -- one of the world's rings, whose first side is the client's
  over_ring : ℕ → Back
  over_route : Route → Back

-- two ends under one interface, which is known by its place among the world's
pub record Binding : Type 0 where
  pub interface : ℕ
  pub back : Back
  -- both are there from the bind on, since reply rules may be set for an end that isn't made yet
  pub client : End
  pub server : End

-- ---- the state

-- the whole world; cores, rings, interfaces and bindings are known by their places in these lists, from 0
pub record State : Type 0 where
  -- no command but those that add interfaces was accepted yet, so the number of cores may still be set
  pub may_set_cores : Bool
  pub cores : List Core
  pub rings : List Ring
  pub interfaces : List Planned
  -- the table of names, in order of registration
  pub services : List Service
  pub bindings : List Binding

-- at the start there is one core
abbrev pub start : State
start = record {
  may_set_cores = true;
  cores = fresh_core 0 ∷ [];
  rings = [];
  interfaces = [];
  services = [];
  bindings = [];
}

-- what an event makes of the state, and its answer
pub record StepOutcome : Type 0 where
  pub state : State
  pub answer : Answer

-- this state, and this answer
abbrev pub answers : State → Answer → StepOutcome
answers s a = record { state = s; answer = a }

-- ---- where things are

-- found by place, and none where nothing stands there
abbrev pub core_of : State → ℕ → Option Core
core_of s core = slice_get s.cores core

abbrev pub dispatcher_of : State → DispatcherId → Option Dispatcher
dispatcher_of s d = given (core_of s d.core) None λ k. slice_get k.dispatchers d.place

abbrev pub binding_of : State → EndId → Option Binding
binding_of s e = slice_get s.bindings e.binding

abbrev pub interface_of : State → Binding → Option Planned
interface_of s b = slice_get s.interfaces b.interface

abbrev pub end_in : Side → Binding → End
end_in Client b = b.client
end_in Server b = b.server

-- an end is found from the bind on, so the server's of a circuit before it is made
abbrev pub end_of : State → EndId → Option End
end_of s e = given (binding_of s e) None λ b. Some (end_in e.side b)

-- a core's link to another
abbrev pub link_between : State → ℕ → ℕ → Option Link
link_between s core neighbour =
    given (core_of s core) None λ k.
    given (link_to neighbour k) None λ l.
    slice_get k.links l

-- ---- routes

-- the way that the calls of one side's end take
abbrev pub way_of : Side → Route → List ℕ
way_of Client route = route.cores
way_of Server route = reverse route.cores

-- how many cores of a way come before this one; none where it isn't on the way
abbrev pub place_in : List ℕ → ℕ → Option ℕ
place_in cores core = position (λ c. c == core) cores

-- the station that fragments of one side's end pass when they leave the link that leads to this core: its
-- place on the way, of which a link leads to each core but the first
abbrev pub station_at : Side → ℕ → Route → Option ℕ
station_at side core route = given (place_in (drop 1 (way_of side route)) core) None λ j. Some (j + 1)

-- the circuit's number on the link between two neighbouring cores of the route
abbrev pub number_between : ℕ → ℕ → Route → Option ℕ
number_between a b route =
    given (place_in route.cores a) None λ i.
    given (place_in route.cores b) None λ j.
    slice_get route.numbers (min i j)

-- ---- where an end puts its fragments

pub data Outlet : Type 0 where
  -- the other end's queue
  peer_queue : Outlet
  -- a side of a ring
  ring_side : RingEnd → Outlet

-- the side of a binding's ring that is one end's
abbrev pub side_of : Side → RingSide
side_of Client = first_side
side_of Server = second_side

-- the first link on an end's way
abbrev pub first_link : State → List ℕ → Option Link
first_link s way =
    given (slice_get way 0) None λ core.
    given (slice_get way 1) None λ next.
    link_between s core next

-- the other end's queue, the end's side of their ring, or its core's side of the first link on the way
abbrev pub outlet_by : State → Side → Back → Option Outlet
outlet_by s side local = Some peer_queue
outlet_by s side (over_ring n) = Some (ring_side (record { ring = n; side = side_of side }))
outlet_by s side (over_route route) =
    given (first_link s (way_of side route)) None λ link. Some (ring_side link.ring)

-- the side of the binding's own ring that an end writes and reads
abbrev pub own_ring : Side → Back → Option RingEnd
own_ring side (over_ring n) = Some (record { ring = n; side = side_of side })
own_ring side back = None

-- what stands first for a side of a ring
abbrev pub first_on : RingEnd → State → Option RingLabel
first_on at s = given (slice_get s.rings at.ring) None (first_for at.side)

-- ---- one thing changed

-- in each of these all stays as it is where the thing to be changed isn't there
abbrev pub change_core : ℕ → (Core → Core) → State → State
change_core core f s = record s { cores = changed_at core f s.cores }

abbrev pub change_dispatcher : DispatcherId → (Dispatcher → Dispatcher) → State → State
change_dispatcher d f s =
    change_core d.core (λ k. record k { dispatchers = changed_at d.place f k.dispatchers }) s

abbrev pub change_ring : ℕ → (Ring → Ring) → State → State
change_ring n f s = record s { rings = changed_at n f s.rings }

abbrev pub change_binding : ℕ → (Binding → Binding) → State → State
change_binding n f s = record s { bindings = changed_at n f s.bindings }

abbrev pub with_end_in : Side → (End → End) → Binding → Binding
with_end_in Client f b = record b { client = f b.client }
with_end_in Server f b = record b { server = f b.server }

abbrev pub change_end : EndId → (End → End) → State → State
change_end e f s = change_binding e.binding (with_end_in e.side f) s

-- what the end sends: its calls, and how far their fragments have come
abbrev pub change_out : EndId → (Direction → Direction) → State → State
change_out e f s = change_end e (λ x. record x { out = f x.out }) s

abbrev pub in_route : (Route → Route) → Back → Back
in_route f (over_route route) = over_route (f route)
in_route f back = back

abbrev pub change_route : ℕ → (Route → Route) → State → State
change_route n f s = change_binding n (λ b. record b { back = in_route f b.back }) s

abbrev pub in_queue : (Queue → Queue) → End → End
in_queue f x = given x.queue x λ q. record x { queue = Some (f q) }

-- ---- a side of a ring, before it puts something that needs so many free slots

-- where too few are known to be free, it looks
abbrev pub ring_makes_sure : ℕ → RingEnd → State → State
ring_makes_sure need at s = change_ring at.ring (makes_sure need at.side) s

-- whether there is room then
abbrev pub ring_room : ℕ → RingEnd → State → Room
ring_room need at s = given (slice_get s.rings at.ring) no_room (room need at.side)

-- ---- ends and their channels

-- a change of an end's channel at its dispatcher, if the end has one
abbrev pub change_channel : EndId → (ℕ → End → Dispatcher → Dispatcher) → State → State
change_channel e f s =
    given (end_of s e) s λ x.
    given x.seat s λ seat.
    change_dispatcher seat.dispatcher (f seat.channel x) s

-- an end is seated: it gets the next channel of a dispatcher, not registered yet
abbrev pub seats : DispatcherId → EndId → State → State
seats d e s =
    given (dispatcher_of s d) s λ x.
    let seat : Seat = record { dispatcher = d; channel = length x.ends } in
    change_dispatcher d (with_end e) (change_end e (λ y. record y { seat = Some seat }) s)

-- an end's channel is registered, where it waits
abbrev pub registers_end : EndId → State → State
registers_end e s = change_channel e (λ c x. registers c (waits_in x.queue)) s

-- an end is bound, on a circuit or on 0, and its channel registered
abbrev pub binds_end : EndId → ℕ → State → State
binds_end e circuit s = registers_end e (change_end e (λ x. record x { circuit = Some circuit }) s)

-- a label comes to the back of an end's queue, and the end's channel is triggered
abbrev pub delivers : Label → EndId → State → State
delivers label e s = change_channel e (λ c x. triggers c) (change_end e (in_queue (joined_by label)) s)
