-- Sound states: cores, links, rings, services and ends stand where they are looked for.
use Rattle.std.specs.Prelude.{ℕ, ◌≡◌, ◌+◌, length, slice_get, Some, IsSome, IsNone}
use Rattle.fl_base.specs.declared.identity.EndId.{EndId}
use Rattle.fl_hop.specs.Joined.{Sound as IsTable}
use Rattle.fl_model.specs.Events.{DispatcherId}
use Rattle.fl_model.specs.Calls.{Planned}
use Rattle.fl_model.specs.Rings.{RingSide, first_side, second_side, RingEnd, Ring}
use Rattle.fl_model.specs.Ends.{End}
use Rattle.fl_model.specs.Waits.{Dispatcher}
use Rattle.fl_model.specs.Monitors.{Core, Link, Service}
use Rattle.fl_model.specs.State.{Back, local, over_ring, over_route, Binding, State, core_of, dispatcher_of}
use Rattle.fl_model.specs.State.{interface_of, end_of, link_between, own_ring}

-- each core's table is its own, with a link of the monitor for each of its links
pub record CoreStands (n : ℕ) (k : Core) : Type 0 where
  pub number : k.circuits.core ≡ n
  pub links : length k.links ≡ length k.circuits.links
  pub table : IsTable k.circuits

abbrev pub CoresStand : State → Type 0
CoresStand s = (n : ℕ) (k : Core) → core_of s n ≡ Some k → CoreStands n k

abbrev pub opposite : RingSide → RingSide
opposite first_side = second_side
opposite second_side = first_side

-- a link is there both ways, over the two sides of a ring
pub record LinkIsPaired (s : State) (a b : ℕ) (link : Link) : Type 0 where
  pub ring : Ring
  pub ring_is : slice_get s.rings link.ring.ring ≡ Some ring
  pub back : Link
  pub back_is : link_between s b a ≡ Some back
  pub same : back.ring ≡ record { ring = link.ring.ring; side = opposite link.ring.side }

abbrev pub LinksArePaired : State → Type 0
LinksArePaired s = (a b : ℕ) (link : Link) → link_between s a b ≡ Some link → LinkIsPaired s a b link

-- who reads and writes a ring: a core, on its link to another; or an end
pub data Owner : Type 0 where
  core_to : ℕ → ℕ → Owner
  this_end : EndId → Owner

-- this side of a ring is the owner's: its link's, or that of its binding's own ring
abbrev pub owns : State → Owner → RingEnd → Type 0
owns s (core_to a b) at = (link : Link) × (link_between s a b ≡ Some link) × (link.ring ≡ at)
owns s (this_end e) at =
    (b : Binding) × (slice_get s.bindings e.binding ≡ Some b) × (own_ring e.side b.back ≡ Some at)

-- no side of a ring has two owners
abbrev pub RingsHaveOneOwner : State → Type 0
RingsHaveOneOwner s = (x y : Owner) (at : RingEnd) → owns s x at → owns s y at → x ≡ y

-- the dispatcher and the interface of each service are there
abbrev pub ServicesStand : State → Type 0
ServicesStand s = (n : ℕ) (x : Service) → slice_get s.services n ≡ Some x
    → IsSome (dispatcher_of s x.dispatcher) × IsSome (slice_get s.interfaces x.interface)

-- the end has a queue, or its binding's ring is there
abbrev pub TakesFrom : State → Back → End → Type 0
TakesFrom s local x = IsSome x.queue
TakesFrom s (over_ring n) x = IsNone x.queue × IsSome (slice_get s.rings n)
TakesFrom s (over_route route) x = IsSome x.queue

-- how many stations an end's direction has: the write, each link's exit on a route, the other end's take
abbrev pub stations : Back → ℕ
stations local = 2
stations (over_ring n) = 2
stations (over_route route) = length route.cores + 1

-- an end's binding has its interface, its direction all its stations, its rules one for each message
pub record EndStands (s : State) (e : EndId) (x : End) : Type 0 where
  pub binding : Binding
  pub there : slice_get s.bindings e.binding ≡ Some binding
  pub interface : Planned
  pub interface_is : interface_of s binding ≡ Some interface
  pub rules : length x.rules ≡ length interface.interface.messages
  pub passed : length x.out.passed ≡ stations binding.back
  pub queue : TakesFrom s binding.back x

abbrev pub EndsStand : State → Type 0
EndsStand s = (e : EndId) (x : End) → end_of s e ≡ Some x → EndStands s e x

-- an end has its seat at this dispatcher, with this channel there
abbrev pub HasSeat : State → EndId → DispatcherId → ℕ → Type 0
HasSeat s e d c = (x : End) × (end_of s e ≡ Some x) × (x.seat ≡ Some (record { dispatcher = d; channel = c }))

-- where an end is seated its dispatcher has it, and each that a dispatcher has is seated there
pub record SeatsAgree (s : State) : Type 0 where
  pub seated : (e : EndId) (d : DispatcherId) (c : ℕ) → HasSeat s e d c
      → (y : Dispatcher) × (dispatcher_of s d ≡ Some y) × (slice_get y.ends c ≡ Some e)
  pub listed : (d : DispatcherId) (y : Dispatcher) (c : ℕ) (e : EndId) → dispatcher_of s d ≡ Some y
      → slice_get y.ends c ≡ Some e → HasSeat s e d c
