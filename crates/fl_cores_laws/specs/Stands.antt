-- Ends that are made in a run: what of them stands in the end. Laws.
use Rattle.std.specs.Prelude.{ℕ, ◌≡◌, ◌⊎◌, false, List, slice_get, Some, None}
use Rattle.fl_base.specs.declared.identity.EndId.{EndId}
use Rattle.fl_base.specs.declared.identity.LinkId.{LinkId}
use Rattle.fl_base.specs.declared.identity.Circuit.{Circuit as Number}
use Rattle.fl_ring.specs.SharedSides.{TheSide}
use Rattle.fl_endpoint.specs.View.{interface_in}
use Rattle.fl_core.specs.BoardView.{TheEndAtChannel}
use Rattle.fl_hop.specs.declared.entry.HopTarget.TheVariants.{End}
use Rattle.fl_hop.specs.Joined.{Leads}
use Rattle.fl_core.specs.View.{place_of, client_of, server_of}
use Rattle.fl_core.specs.declared.core_job.CoreJob.{CoreJob}
use Rattle.fl_core_run.specs.Run.{TheRun}
use Rattle.fl_core.specs.Jobs.{HasNoRule, RulesLead}
use Rattle.fl_cores_jobs.specs.EndWork.{TheEndWork, rule_at, rule_by, is_ruled}
use Rattle.fl_cores_laws.specs.Cores.{OneCore}
use Rattle.fl_cores_laws.specs.Ends.{HasProgress}
use Rattle.fl_cores_laws.specs.Circuits.{Leading, Point, StandsBound}
use Rattle.fl_cores_laws.specs.Neighbours.{IsUnused}
use Rattle.fl_cores_laws.specs.Rules.{RulesFit}
use Rattle.fl_cores_laws.specs.Unbound.{IsLoose}

-- ---- ends to which a table leads

-- the end is there
pub record IsThere (t : TheRun TheSide) (e : EndId) : Type 0 where
  pub place : ℕ
  pub place_is : place_of t.core e ≡ Some place
  pub seat : TheEndAtChannel
  pub seat_is : slice_get t.core.board.seats place ≡ Some seat

-- and is bound to a circuit
pub record IsBoundThere (t : TheRun TheSide) (e : EndId) : Type 0 where
  pub there : IsThere t e
  pub circuit : ℕ
  pub circuit_is : there.seat.end.circuit ≡ Some circuit

-- where a core that opened nothing before has a number in the end that leads to a client's end, that end is there
abbrev pub LedClientsStand : Type 0
LedClientsStand = (jobs : List CoreJob) (c : OneCore) → Leading jobs c → IsUnused c.start.core.monitor → (l n binding : ℕ)
    → Leads c.finish.core.monitor.circuits l n binding (End (client_of binding)) → IsThere c.finish (client_of binding)

-- and where it leads to a server's, that is there and bound
abbrev pub LedServersAreBound : Type 0
LedServersAreBound = (jobs : List CoreJob) (c : OneCore) → Leading jobs c → IsUnused c.start.core.monitor → (l n binding : ℕ)
    → Leads c.finish.core.monitor.circuits l n binding (End (server_of binding)) → IsBoundThere c.finish (server_of binding)

-- ---- an end of an end's work

-- it wasn't there as the run began; its jobs set just the rules of its end's work, as its first jobs, and these fit the interface that it has in the end
pub record IsPlanned (jobs : List CoreJob) (d : TheEndWork) (c : OneCore) (e : EndId) : Type 0 where
  pub absent : place_of c.start.core e ≡ None
  pub lead : RulesLead jobs d.jobs
  pub none : is_ruled d ≡ false → HasNoRule jobs d.jobs
  pub set : (msg : ℕ) → rule_at d.rules msg ≡ rule_by jobs msg None d.jobs
  pub fit : (place : ℕ) (seat : TheEndAtChannel) → place_of c.finish.core e ≡ Some place → slice_get c.finish.core.board.seats place ≡ Some seat
      → RulesFit (interface_in seat.end) jobs d.jobs

abbrev pub point_at : OneCore → LinkId → Number → Point
point_at c l n = record { core = c; link = l; number = n }

-- so in the end it is bound to no circuit, or stands bound to a number of one of its core's links
abbrev pub PlannedEndsStand : Type 0
PlannedEndsStand = (jobs : List CoreJob) (d : TheEndWork) (c : OneCore) (e : EndId) → Leading jobs c → HasProgress d c.start e → IsPlanned jobs d c e
    → IsLoose c.finish e ⊎ ((l : LinkId) × (n : Number) × StandsBound jobs d e (point_at c l n))
