-- A reported run of cores is a run of the machine. Law.
use Rattle.std.specs.Prelude.{ℕ, ◌≡◌, List, slice_get, Some}
use Rattle.fl_base.specs.declared.identity.EndId.{EndId}
use Rattle.fl_core_run.specs.Run.{TheRun}
use Rattle.fl_cores_file.specs.Jobs.{Job}
use Rattle.fl_cores_file.specs.Report.{TheReport, at_end}
use Rattle.fl_cores_fork.specs.Runs.{TheCoreThread, TheFinishedCore}
use Rattle.fl_cores.specs.Behind.{joined_in}
use Rattle.fl_cores.specs.OneCore.{begins}
use Rattle.fl_cores.specs.Promised.{Reports}
use Rattle.fl_history_joined.specs.Logged.{IsTurnLog}
use Rattle.fl_history_joined.specs.Runs.{entries_at}
use Rattle.fl_history_sides.specs.States.{TheHistorySide}
use Rattle.fl_model.specs.Runs.{calls_handled}
use Rattle.fl_world.specs.Booting.{TheConfig}
use Rattle.fl_cores_joined.specs.Joined.{JoinedCore}
use Rattle.fl_cores_joined.specs.Renamed.{end_under}
use Rattle.fl_cores_joined.specs.RenamedRuns.{all_under, RunsUnderSome}
use Rattle.fl_cores_joined.specs.Runs.{asked_in}
use Rattle.fl_cores_joined.specs.Steps.{Moment, Interleaves}
use Rattle.fl_cores_whole.specs.AnyOrder.{is_of_link}
use Rattle.fl_cores_whole.specs.Whole.{begun, AreLeft}

-- Of what the cores of a reported run did in their turns there is an order, which is a run of the machine.
pub record IsMachineRun {c : TheConfig} {jobs : List Job} {limit : ℕ} {r : TheReport}
    (w : Reports c jobs limit r) : Type 0 where
  pub moments : List Moment
  pub cores : List JoinedCore
  -- In it each look finds what stands in its ring, from the cores as the run began to those that it left.
  pub order : Interleaves (joined_in w).jobs (begun w) moments cores
  pub left : AreLeft w cores
  -- Of each core it has just the events of its turns, in their order: no fewer turns than were counted.
  pub entries : (n : ℕ) (s : TheCoreThread) (o : TheFinishedCore) (begin end : TheRun TheHistorySide)
      → slice_get w.ran.ran.ran.core_threads n ≡ Some s → slice_get w.ran.ran.ran.outcomes n ≡ Some o
      → slice_get w.ran.ran.ran.order.begins n ≡ Some begin → slice_get w.ran.ran.ran.order.ends n ≡ Some end
      → IsTurnLog s.plan (joined_in w).jobs o.part.turns begin end (entries_at n moments)
  -- Under a renaming of bindings the machine, from where the set-up and the jobs' rules have brought it, answers as the
  -- cores did, and comes to a state that they show.
  pub runs : RunsUnderSome (is_of_link (begun w)) moments
      (asked_in (joined_in w).jobs (begun w) moments cores order) (begins c jobs) cores
  -- Each end, by its number there, handled just the calls that the report tells.
  pub told : (e : EndId) → calls_handled (end_under runs.renaming e)
      (all_under runs.renaming (asked_in (joined_in w).jobs (begun w) moments cores order)) ≡ at_end r.handled e

-- Law: each reported run is one. No premise gives an order of events.
abbrev pub ReportsAreMachineRuns : Type 0
ReportsAreMachineRuns = (c : TheConfig) (jobs : List Job) (limit : ℕ) (r : TheReport) (w : Reports c jobs limit r)
    → IsMachineRun w
