-- That each core of a run goes on as the machine does, from the set-up. Public promises rest on this file.
use Rattle.std.specs.Prelude.{ℕ, ◌≡◌, ◌≤◌, List, slice_get, Some, None}
use Rattle.fl_core.specs.declared.core_job.CoreJob.{CoreJob}
use Rattle.fl_core_run.specs.LogEntries.{LogEntry}
use Rattle.fl_model.specs.Ends.{End}
use Rattle.fl_model.specs.Monitors.{Core}
use Rattle.fl_model.specs.State.{Binding, State, core_of, binding_of, interface_of, end_of}
use Rattle.fl_cores_file.specs.Jobs.{Job}
use Rattle.fl_cores_file.specs.Report.{TheReport, at_end}
use Rattle.fl_world.specs.Booting.{TheConfig}
use Rattle.fl_cores_fork.specs.Runs.{TheFinishedCore, TheCoreThread}
use Rattle.fl_cores.specs.Promised.{Reports}
use Rattle.fl_core_refines.specs.CutEnds.{EndCut}
use Rattle.fl_core_refines.specs.Cut.{CoreCut}
use Rattle.fl_core_refines.specs.CutStart.{first_cut}
use Rattle.fl_core_turned.specs.Turned.{moment, many, TurnedBy}
use Rattle.fl_cores.specs.Wanted.{behind}

-- an end of a cut as the machine has it, but for the rules that jobs set; the queue that it takes from stands
-- among the core's
pub record IsOfMachine (s : State) (x : EndCut) : Type 0 where
  pub end : End
  pub end_is : end_of s x.wired_end.name ≡ Some end
  pub same : x.end ≡ record end { rules = x.end.rules; queue = None }
  pub binding : Binding
  pub binding_is : binding_of s x.wired_end.name ≡ Some binding
  pub planned_is : interface_of s binding ≡ Some x.planned

-- a report tells of an end the calls that the machine's end accepted, and those that came there
pub record TellsEnd (r : TheReport) (x : EndCut) : Type 0 where
  pub made : at_end r.made x.wired_end.name ≡ x.end.out.accepted
  pub handled : at_end r.handled x.wired_end.name ≡ x.came.accepted

-- core n ran, from this core thread to this outcome, and this is reported of it
pub record CoreFollows (c : TheConfig) (jobs : List CoreJob) (r : TheReport) (n : ℕ)
    (s : TheCoreThread) (o : TheFinishedCore) : Type 0 where
  -- it began with the machine's core of its number behind the set-up, and with the machine's ends, at which
  -- no call was accepted
  pub core : Core
  pub core_is : core_of (behind c) n ≡ Some core
  pub ends : (place : ℕ) (x : EndCut) → slice_get (first_cut core s.run).ends place ≡ Some x
      → IsOfMachine (behind c) x
  -- it took so many turns by its plan, no fewer than were counted, with this log, and behind each event it
  -- showed the cut that the machine makes by that of the cut before
  pub turns : ℕ
  pub counted : o.part.turns ≤ turns
  pub log : List LogEntry
  pub after : CoreCut
  pub turned : TurnedBy (behind c).services (many s.plan jobs turns) log
      (moment s.run (first_cut core s.run)) (moment o.run after)
  -- what is told of each of its ends is what the machine's end accepted in these turns, and what came there
  pub told : (place : ℕ) (x : EndCut) → slice_get after.ends place ≡ Some x → TellsEnd r x

-- so did each core of a run that is reported
abbrev pub CoresFollow : {c : TheConfig} {jobs : List Job} {limit : ℕ} {r : TheReport}
    → Reports c jobs limit r → Type 0
CoresFollow {c} {jobs} {limit} {r} w = (n : ℕ) (s : TheCoreThread) (o : TheFinishedCore)
    → slice_get w.ran.ran.ran.core_threads n ≡ Some s
    → slice_get w.ran.ran.ran.outcomes n ≡ Some o → CoreFollows c w.ran.ran.joined.jobs r n s o

-- Law
abbrev pub RunsFollow : Type 0
RunsFollow = (c : TheConfig) (jobs : List Job) (limit : ℕ) (r : TheReport) (w : Reports c jobs limit r)
    → CoresFollow w
