-- What is promised of a run of a world's parts on threads. Public promises rest on this file.
use Rattle.std.specs.Prelude.{ℕ, ◌≡◌, ◌≤◌, List, length, slice_get, Some}
use Rattle.std.specs.List.{AllZip}
use Rattle.fl_cores_file.specs.Jobs.{Job}
use Rattle.fl_cores_file.specs.Report.{TheReport, turns_out}
use Rattle.fl_world_refines.specs.declared.parts.Parts.{Parts}
use Rattle.fl_cores_jobs.specs.Fitting.{JobsFit}
use Rattle.fl_cores_jobs.specs.Rules.{RulesOf}
use Rattle.fl_cores_jobs.specs.State.{TheJoinedJobs, AreJoined}
use Rattle.fl_cores_jobs.specs.Whole.{AreBound, AreDue, NoneRefused, IsBeside}
use Rattle.fl_cores_jobs.specs.Requested.{AreRequested}
use Rattle.fl_cores_fork.specs.Runs.{TheFinishedCore, seats_left, TheCoreThread, RanTo}
use Rattle.fl_cores_fork.specs.Tells.{Tells}
use Rattle.fl_cores_parts.specs.Begins.{Places, common_in, AreCoreThreads}
use Rattle.fl_cores_parts.specs.Heard.{HeardAsTold}
use Rattle.fl_cores_parts.specs.Shares.{Shares, AreSound}
use Rattle.fl_cores_parts.specs.AtTable.{RanAtTable}

-- what a report says of turns
pub record Keeps (cores limit : ℕ) (r : TheReport) : Type 0 where
  -- there are as many turns as cores, and none above the limit
  pub count : length r.turns ≡ cores
  pub within : (core turns : ℕ) → slice_get r.turns core ≡ Some turns → turns ≤ limit
  -- `turns out` only where a core took all its turns
  pub out : r.ending ≡ turns_out → (core : ℕ) × (slice_get r.turns core ≡ Some limit)

-- each core of these parts ran by its plan from what it was given, what they heard of refused openings was told, the
-- report tells what came of all that, and one order has all that was done by sides of rings
pub record CoresRan (p : Parts) (j : TheJoinedJobs) (limit : ℕ) (r : TheReport) : Type 0 where
  pub core_threads : List TheCoreThread
  pub places : Places
  pub begin : AreCoreThreads (common_in p j places) 0 p.cores.items core_threads
  pub outcomes : List TheFinishedCore
  pub ran : AllZip (RanTo j.jobs limit) core_threads outcomes
  pub shares : Shares p places core_threads outcomes
  pub sound : AreSound core_threads outcomes
  pub heard : HeardAsTold (length j.owners) (seats_left outcomes)
  pub tells : Tells j outcomes r
  pub order : RanAtTable j.jobs limit p.rings.items shares.side_owners core_threads outcomes

-- the jobs, of which none has a fault, were joined to these parts, with the reply rules that are set at once, and then
-- the cores ran
pub record RanFrom (p : Parts) (jobs : List Job) (limit : ℕ) (r : TheReport) : Type 0 where
  pub joined : TheJoinedJobs
  pub are_joined : AreJoined (length p.cores.items) jobs joined
  pub are_bound : AreBound p.bindings.items jobs joined
  pub are_fit : JobsFit p.names p.programs.items joined
  pub are_requested : AreRequested p.names p.cores.items (length p.bindings.items) jobs joined
  pub are_due : AreDue jobs joined
  pub parts : Parts
  pub rules : RulesOf p.bindings.items jobs p.cores.items parts.cores.items
  pub beside : IsBeside p parts
  pub ran : CoresRan parts joined limit r
  pub passed : NoneRefused p jobs
