-- Sound states: routes, the circuits' numbers on them, and how far the answer has come.
use Rattle.std.specs.Prelude.{ℕ, zero, suc, ◌≡◌, ◌≤◌, ◌<◌, ◌+◌, ◌-◌, true, length, slice_get, Some}
use Rattle.std.specs.Prelude.{None, IsSome}
use Rattle.fl_model.specs.Ends.{Seat}
use Rattle.fl_model.specs.Monitors.{Service, service_of}
use Rattle.fl_model.specs.State.{OpeningVerdict, undecided, granted, denied, Route, Back, local, over_ring}
use Rattle.fl_model.specs.State.{over_route, Binding, State, link_between}
use Rattle.fl_hop.specs.declared.links.LinkState.{LinkState}
use Rattle.fl_hop.specs.Numbers.{IsAmong}
use Rattle.fl_model.specs.Binding.{all_differ}
use Rattle.fl_model.specs.Standing.{Routed, core_at, number_at, link_state}

-- a route has 2 to 16 different cores, the first that of the client's dispatcher, the last that of the
-- service's, where the server's end is once it is made
pub record RouteLeads (s : State) (route : Route) (b : Binding) : Type 0 where
  pub some : 2 ≤ length route.cores
  pub few : length route.cores ≤ 16
  pub differ : all_differ route.cores ≡ true
  pub client : Seat
  pub client_is : b.client.seat ≡ Some client
  pub first : client.dispatcher.core ≡ core_at route 0
  pub service : Service
  pub service_is : service_of s.services route.service ≡ Some service
  pub last : service.dispatcher.core ≡ core_at route (length route.cores - 1)
  pub server : (seat : Seat) → b.server.seat ≡ Some seat → seat.dispatcher ≡ service.dispatcher

abbrev pub RoutesLead : State → Type 0
RoutesLead s = (n : ℕ) (route : Route) (r : Routed s n route) → RouteLeads s route r.binding

-- the circuit has a number on the first link, at most on each, and these links are there
pub record NumbersGo (s : State) (route : Route) : Type 0 where
  pub some : 1 ≤ length route.numbers
  pub few : length route.numbers + 1 ≤ length route.cores
  pub linked : (j : ℕ) → j < length route.numbers
      → IsSome (link_between s (core_at route j) (core_at route (j + 1)))

abbrev pub NumbersGoAlongRoutes : State → Type 0
NumbersGoAlongRoutes s = (n : ℕ) (route : Route) → Routed s n route → NumbersGo s route

-- an opening that was granted had come to the last core; no more cores wait for the answer than have a number
abbrev pub VerdictFits : Route → OpeningVerdict → Type 0
VerdictFits route undecided = Unit {0}
VerdictFits route (granted i) = (length route.numbers + 1 ≡ length route.cores) × (i ≤ length route.numbers)
VerdictFits route (denied i fault) = i ≤ length route.numbers

abbrev pub VerdictsFit : State → Type 0
VerdictsFit s = (n : ℕ) (route : Route) → Routed s n route → VerdictFits route route.verdict

-- the client's end is bound once no core waits for the word any more
abbrev pub ClientBoundAfter : Route → ℕ → Binding → Type 0
ClientBoundAfter route zero b = b.client.circuit ≡ Some (number_at route 0)
ClientBoundAfter route (suc i) b = b.client.circuit ≡ None

-- neither end is bound, and the server's isn't made
abbrev pub NoneBound : Binding → Type 0
NoneBound b = (b.client.circuit ≡ None) × (b.server.circuit ≡ None) × (b.server.seat ≡ None)

-- which ends are bound, by the answer: the server's, which is made then, once the opening was granted, on the
-- last number; the client's once nobody waits for that any more, on the first
abbrev pub BoundBy : Route → OpeningVerdict → Binding → Type 0
BoundBy route undecided b = NoneBound b
BoundBy route (denied i fault) b = NoneBound b
BoundBy route (granted i) b =
    ClientBoundAfter route i b × (b.server.circuit ≡ Some (number_at route (length route.numbers - 1)))
    × IsSome b.server.seat

-- both ends are made and bound, off links: their fragments carry circuit 0
abbrev pub BothBound : Binding → Type 0
BothBound b =
    (b.client.circuit ≡ Some 0) × (b.server.circuit ≡ Some 0) × IsSome b.client.seat × IsSome b.server.seat

-- both where queues or a ring join them; over a route by what has come of the opening
abbrev pub BoundWhere : Back → Binding → Type 0
BoundWhere local b = BothBound b
BoundWhere (over_ring n) b = BothBound b
BoundWhere (over_route route) b = BoundBy route route.verdict b

-- in each binding those ends are bound that should be, and no other
abbrev pub EndsAreBound : State → Type 0
EndsAreBound s = (n : ℕ) (b : Binding) → slice_get s.bindings n ≡ Some b → BoundWhere b.back b

-- ---- what the law of numbers given once needs, and no other

-- each number was opened by the core whose it is
abbrev pub NumbersWereOpened : State → Type 0
NumbersWereOpened s = (n : ℕ) (route : Route) (j : ℕ) (here : LinkState) → Routed s n route
    → j < length route.numbers → link_state s (core_at route j) (core_at route (j + 1)) ≡ Some here
    → IsAmong (core_at route j) (core_at route (j + 1)) here.opened (number_at route j)

-- where two routes have one number on the link from one core to the next, they are one binding's
pub record OneNumber (p q : Route) (i j : ℕ) : Type 0 where
  pub first : i < length p.numbers
  pub second : j < length q.numbers
  pub from : core_at p i ≡ core_at q j
  pub to : core_at p (i + 1) ≡ core_at q (j + 1)
  pub number : number_at p i ≡ number_at q j

abbrev pub NumbersAreOnce : State → Type 0
NumbersAreOnce s = (m n : ℕ) (p q : Route) (i j : ℕ) → Routed s m p → Routed s n q → OneNumber p q i j → m ≡ n
