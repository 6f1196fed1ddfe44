-- Sound states: how many there are of what a world makes, routes within the world, and numbers in both
-- directions of a link.
use Rattle.std.specs.Prelude.{ℕ, ◌≡◌, ◌≤◌, ◌<◌, ◌+◌, length, Contains}
use Rattle.fl_base.specs.Numbered.{most_cores, most_bindings}
use Rattle.fl_model.specs.State.{Route, State}
use Rattle.fl_model.specs.Making.{most_interfaces, most_services}
use Rattle.fl_model.specs.Standing.{Routed, core_at, number_at}

-- so a core has at most 15 links, since no two of them lead to one core, and none to the core itself
abbrev pub CoresAreFew : State → Type 0
CoresAreFew s = length s.cores ≤ most_cores

abbrev pub InterfacesAreFew : State → Type 0
InterfacesAreFew s = length s.interfaces ≤ most_interfaces

abbrev pub ServicesAreFew : State → Type 0
ServicesAreFew s = length s.services ≤ most_services

abbrev pub BindingsAreFew : State → Type 0
BindingsAreFew s = length s.bindings ≤ most_bindings

-- the cores of each route are cores of the world
abbrev pub RoutesKeepToCores : State → Type 0
RoutesKeepToCores s = (n : ℕ) (route : Route) (core : ℕ) → Routed s n route → Contains route.cores core
    → core < length s.cores

-- two routes have one number on the link between two cores, over which one goes forth and the other back
pub record OneNumberBack (p q : Route) (i j : ℕ) : Type 0 where
  pub first : i < length p.numbers
  pub second : j < length q.numbers
  pub from : core_at p i ≡ core_at q (j + 1)
  pub to : core_at p (i + 1) ≡ core_at q j
  pub number : number_at p i ≡ number_at q j

-- then they are one binding's too
abbrev pub NumbersAreOnceBothWays : State → Type 0
NumbersAreOnceBothWays s = (m n : ℕ) (p q : Route) (i j : ℕ) → Routed s m p → Routed s n q
    → OneNumberBack p q i j → m ≡ n
