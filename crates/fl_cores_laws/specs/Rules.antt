-- The reply rules of an end that is made in a run: its jobs set them, before it handles a call. Law.
use Rattle.std.specs.Prelude.{ℕ, ◌≡◌, ◌⊎◌, List, [], ◌∷◌, slice_get, Option, Some, None}
use Rattle.fl_base.specs.declared.identity.EndId.{EndId}
use Rattle.fl_interface.specs.Interface.{TheInterface}
use Rattle.fl_endpoint.specs.View.{interface_in}
use Rattle.fl_endpoint.specs.Events.{IsMessage, SameTypes}
use Rattle.fl_core.specs.BoardView.{TheEndAtChannel}
use Rattle.fl_core.specs.View.{place_of}
use Rattle.fl_core.specs.declared.core_job.CoreJob.{CoreJob}
use Rattle.fl_core.specs.declared.core_job.CoreJob.TheVariants as job
use Rattle.fl_core.specs.Jobs.{RulesLead}
use Rattle.fl_cores_jobs.specs.EndWork.{TheEndWork, rule_at, rule_by}
use Rattle.fl_cores_laws.specs.Cores.{OneCore, Went}
use Rattle.fl_cores_laws.specs.Ends.{HasProgress, AreItsRules}
use Rattle.fl_cores_laws.specs.Told.{handled_by}

-- a rule that a job sets is one between two messages of the interface with the same arguments
abbrev pub FitsInterface : TheInterface → Option CoreJob → Type 0
FitsInterface i (Some (job.Reply e msg reply)) = IsMessage i msg.0 × IsMessage i reply.0 × SameTypes i msg.0 reply.0
FitsInterface i other = Unit {0}

abbrev pub RulesFit : TheInterface → List CoreJob → List ℕ → Type 0
RulesFit i jobs [] = Unit {0}
RulesFit i jobs (place ∷ places) = FitsInterface i (slice_get jobs place) × RulesFit i jobs places

-- an end that was made in the run; its jobs set just the rules of its end's work, as its first jobs, and these fit its interface
pub record SetsItsRules (jobs : List CoreJob) (d : TheEndWork) (c : OneCore) (e : EndId) (seat : TheEndAtChannel) : Type 0 where
  pub absent : place_of c.start.core e ≡ None
  pub place : ℕ
  pub place_is : place_of c.finish.core e ≡ Some place
  pub seat_is : slice_get c.finish.core.board.seats place ≡ Some seat
  pub lead : RulesLead jobs d.jobs
  pub set : (msg : ℕ) → rule_at d.rules msg ≡ rule_by jobs msg None d.jobs
  pub fit : RulesFit (interface_in seat.end) jobs d.jobs

-- it handled nothing, or its rules are set
abbrev pub RulesAreSet : Type 0
RulesAreSet = (jobs : List CoreJob) (d : TheEndWork) (c : OneCore) (e : EndId) (seat : TheEndAtChannel) → Went jobs c → HasProgress d c.start e
    → SetsItsRules jobs d c e seat → (handled_by c.finish e ≡ []) ⊎ AreItsRules seat.end.rules d
