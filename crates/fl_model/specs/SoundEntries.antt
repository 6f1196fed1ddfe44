-- Sound states: the entries of circuits are those of the bindings' routes, as far as each has come.
use Rattle.std.specs.Prelude.{ℕ, zero, suc, ◌≡◌, ◌⊎◌, ◌<◌, ◌+◌, ◌==◌, false, if◌then◌else◌, length}
use Rattle.std.specs.Prelude.{Some}
use Rattle.fl_base.specs.declared.identity.Side.TheVariants.{Client, Server}
use Rattle.fl_base.specs.declared.identity.EndId.{EndId}
use Rattle.fl_hop.specs.declared.entry.HopTarget.{HopTarget}
use Rattle.fl_hop.specs.declared.entry.HopTarget.TheVariants.{Link as to_link, End as to_end}
use Rattle.fl_hop.specs.declared.entry.Hop.{Hop}
use Rattle.fl_hop.specs.Table.{hop_at}
use Rattle.fl_model.specs.Monitors.{Core, link_to}
use Rattle.fl_model.specs.State.{Route, State, core_of}
use Rattle.fl_model.specs.Binding.{end_id}
use Rattle.fl_model.specs.Standing.{Routed, core_at, number_at, standing, asking}

-- where an entry leads: to an end, or to a neighbour under a number
pub data Leads : Type 0 where
  to_this : EndId → Leads
  on_to : ℕ → ℕ → Leads

-- from core j of the route of binding n, toward the client, and toward the server
abbrev pub behind : ℕ → Route → ℕ → Leads
behind n route zero = to_this (end_id n Client)
behind n route (suc j) = on_to (core_at route j) (number_at route j)

abbrev pub ahead : ℕ → Route → ℕ → Leads
ahead n route j =
    if j + 1 == length route.cores
    then to_this (end_id n Server)
    else on_to (core_at route (j + 1)) (number_at route j)

-- a way of a core's table says that
abbrev pub SaysWay : Core → HopTarget → Leads → Type 0
SaysWay k (to_end e) (to_this f) = e ≡ f
SaysWay k (to_link l c) (on_to neighbour number) = (link_to neighbour k ≡ Some l.0) × (c.0 ≡ number)
SaysWay k way leads = ⊥

-- a core, one of its neighbours, and a number on the link between them
pub record Key : Type 0 where
  pub core : ℕ
  pub neighbour : ℕ
  pub number : ℕ

-- an entry stands there
pub record EntryAt (s : State) (key : Key) (hop : Hop) : Type 0 where
  pub core : Core
  pub core_is : core_of s key.core ≡ Some core
  pub link : ℕ
  pub link_is : link_to key.neighbour core ≡ Some link
  pub there : hop_at core.circuits link key.number ≡ Some hop

-- the two keys of the circuit on link j of the route: at the near core, and at the far one
abbrev pub near_key : Route → ℕ → Key
near_key route j =
    record { core = core_at route j; neighbour = core_at route (j + 1); number = number_at route j }

abbrev pub far_key : Route → ℕ → Key
far_key route j =
    record { core = core_at route (j + 1); neighbour = core_at route j; number = number_at route j }

-- an entry of this binding stands there and leads so
pub record EntryIs (s : State) (key : Key) (binding : ℕ) (leads : Leads) : Type 0 where
  pub hop : Hop
  pub entry : EntryAt s key hop
  pub binding_is : hop.binding ≡ binding
  pub way : SaysWay entry.core hop.way leads

-- each entry of a route that should stand does
pub record EntriesStandOn (s : State) (n : ℕ) (route : Route) : Type 0 where
  pub near : (j : ℕ) → j < standing route → j < length route.numbers
      → EntryIs s (near_key route j) n (behind n route j)
  pub far : (j : ℕ) → j + 1 < standing route → j < length route.numbers
      → EntryIs s (far_key route j) n (ahead n route (j + 1))

abbrev pub EntriesStand : State → Type 0
EntriesStand s = (n : ℕ) (route : Route) → Routed s n route → EntriesStandOn s n route

-- a key of link j of a route at which an entry should stand, and where it should lead
pub record IsDueNear (s : State) (key : Key) (core : Core) (hop : Hop) (route : Route) (j : ℕ) : Type 0 where
  pub within : j < length route.numbers
  pub stands : j < standing route
  pub key_is : key ≡ near_key route j
  pub way : SaysWay core hop.way (behind hop.binding route j)

-- the same at the link's far core, where the entry leads on toward the server
pub record IsDueFar (s : State) (key : Key) (core : Core) (hop : Hop) (route : Route) (j : ℕ) : Type 0 where
  pub within : j < length route.numbers
  pub stands : j + 1 < standing route
  pub key_is : key ≡ far_key route j
  pub way : SaysWay core hop.way (ahead hop.binding route (j + 1))

-- and each that stands should
abbrev pub EntriesAreDue : State → Type 0
EntriesAreDue s = (key : Key) (hop : Hop) (at : EntryAt s key hop)
    → (route : Route) × Routed s hop.binding route
    × ((j : ℕ) × (IsDueNear s key at.core hop route j ⊎ IsDueFar s key at.core hop route j))

-- the cores that wait for the answer haven't had it: their entries are not marked as answered
abbrev pub AnswersAreAwaited : State → Type 0
AnswersAreAwaited s = (n : ℕ) (route : Route) (j : ℕ) → Routed s n route → j < asking route
    → (hop : Hop) × EntryAt s (near_key route j) hop × (hop.answered ≡ false)
