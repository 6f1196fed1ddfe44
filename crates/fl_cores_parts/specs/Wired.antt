-- What the cores of a run begin with.
use Rattle.std.specs.Prelude.{List, map, length}
use Rattle.fl_cores_file.specs.Jobs.{Job}
use Rattle.fl_world_refines.specs.declared.parts.Parts.{Parts}
use Rattle.fl_cores_jobs.specs.Fitting.{JobsFit}
use Rattle.fl_cores_jobs.specs.Rules.{RulesOf}
use Rattle.fl_cores_jobs.specs.State.{AreJoined, joined_of}
use Rattle.fl_cores_jobs.specs.Whole.{AreBound, AreDue, NoneRefused, IsBeside}
use Rattle.fl_cores_jobs.specs.Requested.{AreRequested}
use Rattle.fl_cores_fork.specs.CoreThreads.{AllReady, core_thread_of}
use Rattle.fl_cores_parts.specs.Dealing.{Wirings}
use Rattle.fl_cores_parts.specs.declared.again.WiredCores.{WiredCores}

-- the jobs, of which none has a fault, were joined to these parts, with the reply rules that are set at once, and each
-- core has what its thread works on: as a run of these parts begins
pub record WiredFrom (p : Parts) (jobs : List Job) (w : WiredCores) : Type 0 where
  pub are_joined : AreJoined (length p.cores.items) jobs (joined_of w.joined)
  pub are_bound : AreBound p.bindings.items jobs (joined_of w.joined)
  pub are_fit : JobsFit p.names p.programs.items (joined_of w.joined)
  pub are_requested : AreRequested p.names p.cores.items (length p.bindings.items) jobs (joined_of w.joined)
  pub are_due : AreDue jobs (joined_of w.joined)
  pub parts : Parts
  pub rules : RulesOf p.bindings.items jobs p.cores.items parts.cores.items
  pub beside : IsBeside p parts
  pub wires : Wirings parts (joined_of w.joined) (map core_thread_of w.core_threads.items) w.owners.items
  pub ready : AllReady w.core_threads.items
  pub passed : NoneRefused p jobs
