-- When a running core shows a state of the machine, with ends' progress: by its own queues, and no link and no ring.
use Rattle.std.specs.Prelude.{ℕ, ◌≡◌, ◌<◌, nat_lt, true, false, List, [], ◌∷◌, map, length, slice_get, Some}
use Rattle.fl_base.specs.declared.identity.EndId.{EndId}
use Rattle.fl_base.specs.Numbered.{most_bindings}
use Rattle.fl_value_data.specs.Value.{call_of}
use Rattle.fl_link.specs.Queue.{TheQueue}
use Rattle.fl_core.specs.View.{TheCore}
use Rattle.fl_core.specs.Sound.{IsCore}
use Rattle.fl_world_refines.specs.View.{TheWorld}
use Rattle.fl_world_refines.specs.ShowsState.{Shows}
use Rattle.fl_core_run.specs.EndProgress.{TheEndProgress}
use Rattle.fl_core_run.specs.Run.{TheRun}
use Rattle.fl_core.specs.declared.core_job.CoreJob.{CoreJob}
use Rattle.fl_core_run.specs.declared.plan.TurnPlan.{TurnPlan}
use Rattle.fl_core_run.specs.declared.opening_status.OpeningStatus.{OpeningStatus}
use Rattle.fl_core_run.specs.declared.opening_status.OpeningStatus.TheVariants.{Silent}
use Rattle.fl_core_refines.specs.AloneTurns.{MachineProgress, MachineRun, MachineTask}

abbrev pub progress_of : TheEndProgress → MachineProgress
progress_of d = record { jobs = d.jobs; done = d.done; due = d.due; handled = map call_of d.handled; refused = d.refused }

-- what a plan's turns go over
abbrev pub work_of : TurnPlan → List CoreJob → MachineTask
work_of plan jobs = record { ends = plan.ends.items; dispatchers = plan.dispatchers; jobs = jobs }

-- what a set-up made, with this core and these queues alone: a world of one core
abbrev pub alone_with : TheWorld → TheCore → List TheQueue → TheWorld
alone_with w k queues = record w { may_set_cores = false; cores = k ∷ []; rings = []; queues = queues }

-- with the core and its queues as they are now
abbrev pub world_with : {S : Type 0} → TheWorld → TheRun S → TheWorld
world_with w r = alone_with w r.core r.queues

-- it is sound; with what the set-up made it is a world that shows the state; and its ends' progress are these
pub record ShowsAlone {S : Type 0} (w : TheWorld) (r : TheRun S) (a : MachineRun) : Type 0 where
  pub core : IsCore r.core
  pub shows : Shows (world_with w r) a.state
  pub no_rings : r.rings ≡ []
  pub no_links : r.core.link_sides ≡ []
  pub progresses : a.progresses ≡ map progress_of r.progresses

-- ---- what a run begins with

-- the ends' bindings have numbers that ends may have
abbrev pub HasFew : List EndId → Type 0
HasFew ends = (k : ℕ) (e : EndId) → slice_get ends k ≡ Some e → nat_lt e.binding most_bindings ≡ true

-- no job opens a binding: each end has a word, and it is silent
abbrev pub AreSilent : List EndId → List OpeningStatus → Type 0
AreSilent ends words = (k : ℕ) → k < length ends → slice_get words k ≡ Some Silent
