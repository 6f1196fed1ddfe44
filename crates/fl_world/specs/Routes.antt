-- A binding by a route, among the bindings and in a world.
use Rattle.std.specs.Prelude.{ℕ, ◌≡◌, List, [], ◌∷◌, ◌++◌, length, map, slice_get, Some, None, Result, Ok}
use Rattle.fl_base.specs.declared.identity.CoreId.{CoreId}
use Rattle.fl_base.specs.declared.identity.LinkId.{LinkId}
use Rattle.fl_base.specs.Numbered.{core_id}
use Rattle.fl_compile.specs.declared.program.Program.{Program}
use Rattle.fl_endpoint.specs.View.{fresh}
use Rattle.fl_monitor.specs.declared.fault.MonitorFault.{MonitorFault}
use Rattle.fl_monitor.specs.declared.fault.MonitorFault.TheVariants as monitor
use Rattle.fl_monitor.specs.declared.opening.Opening.{Opening}
use Rattle.fl_monitor.specs.Monitors.{MayOpen, wanted}
use Rattle.fl_core.specs.View.{TheCore}
use Rattle.fl_model.specs.Events.{Answer, done, nothing, refused}
use Rattle.fl_world_refines.specs.declared.binding.Binding.{Binding}
use Rattle.fl_world_refines.specs.Binding.{by_cores, OpensBy, OpensFrom}
use Rattle.fl_world_refines.specs.View.{TheWorld, IsWhole}
use Rattle.fl_world.specs.declared.binding.BindRequest.{BindRequest}
use Rattle.fl_world_events.specs.declared.by_route.OpenOutcome.{OpenOutcome}
use Rattle.fl_world_events.specs.declared.by_route.OpenOutcome.TheVariants as begun
use Rattle.fl_core.specs.Making.{MayOpen as MayOpenAt}
use Rattle.fl_world_events.specs.Last.{NotRefused}
use Rattle.fl_world.specs.Requests.{request}

-- ---- among the bindings

-- the binding that is asked for, with the server's end kept until it is made
abbrev pub unmade_binding : BindRequest → Program → Binding
unmade_binding x p =
    record { interface = x.interface; client = x.client.core; server = x.server.core; unmade = Some (fresh p None) }

-- what follows from what the core made of it
abbrev pub Keeps : OpenOutcome → Binding → List Binding → Answer → List Binding → Type 0
Keeps begun.There b bindings a bindings2 = (a ≡ nothing) × (bindings2 ≡ bindings)
Keeps (begun.Refused n) b bindings a bindings2 = (a ≡ refused n) × (bindings2 ≡ bindings)
Keeps begun.Waits b bindings a bindings2 = (a ≡ done) × (bindings2 ≡ bindings ++ b ∷ [])

-- ---- in the world

-- the opening of the next binding
abbrev pub opening_along : BindRequest → ℕ → List CoreId → Opening
opening_along x n path = record { binding = n; service = x.iref; path = path }

-- whether a circuit may be opened along these cores from the client's core, whatever program stands there
pub record MayOpenFrom (x : BindRequest) (path : List CoreId) (w : TheWorld) (may : Result LinkId MonitorFault) : Type 0 where
  pub core : TheCore
  pub core_is : slice_get w.cores x.client.core ≡ Some core
  pub whole : IsWhole core
  pub may_open : (p : Program) → slice_get w.programs x.interface ≡ Some p
      → MayOpen (wanted p p (core_id x.server.core) path (length w.cores)) core.monitor.circuits may

-- a circuit is opened on link l, whatever program and core stand there
abbrev pub OpensOnLink : BindRequest → LinkId → List CoreId → TheWorld → Answer → TheWorld → Type 0
OpensOnLink x l path w a w2 = (p : Program) (k : TheCore) (cores : List ℕ) → slice_get w.programs x.interface ≡ Some p
    → slice_get w.cores x.client.core ≡ Some k → path ≡ map core_id cores → OpensBy (Ok l) (by_cores (request x p) cores) k w a w2

-- a circuit is opened, or not, whatever program stands there
abbrev pub OpensAlong : BindRequest → List CoreId → TheWorld → Answer → TheWorld → Type 0
OpensAlong x path w a w2 = (p : Program) (cores : List ℕ) → slice_get w.programs x.interface ≡ Some p → path ≡ map core_id cores
    → OpensFrom (request x p) cores w a w2

-- ---- memory is wanting last

-- memory aside, the client's core opens it on link l
abbrev pub MayOpenOn : BindRequest → LinkId → List CoreId → TheWorld → Type 0
MayOpenOn x l path w = (k : TheCore) → slice_get w.cores x.client.core ≡ Some k → MayOpenAt x.client.place l (opening_along x (length w.bindings) path) k

-- no refusal is what comes of it, whatever program stands there
abbrev pub OpensLast : BindRequest → List CoreId → TheWorld → Type 0
OpensLast x path w = (p : Program) (cores : List ℕ) → slice_get w.programs x.interface ≡ Some p → path ≡ map core_id cores
    → NotRefused (OpensFrom (request x p) cores w)
