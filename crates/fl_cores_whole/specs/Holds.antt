-- What holds of all that the cores of a reported run do one after another, since it is a run of the machine. Law.
use Rattle.std.specs.Prelude.{ℕ, ◌≡◌, Bool, false, List, ◌++◌, slice_get, Some}
use Rattle.std.specs.List.{flat_map}
use Rattle.fl_base.specs.declared.identity.EndId.{EndId}
use Rattle.fl_base.specs.Ends.{peer}
use Rattle.fl_base.specs.Prefix.{IsPrefix}
use Rattle.fl_model.specs.Events.{Event, refused}
use Rattle.fl_model.specs.Faults.{is_wire_fault}
use Rattle.fl_model.specs.Laws.{accepted_by}
use Rattle.fl_model.specs.Runs.{Exchange, run, reached, calls_handled}
use Rattle.fl_model.specs.SoundLimits.{NumbersAreOnceBothWays}
use Rattle.fl_model.specs.State.{State}
use Rattle.fl_model.specs.Worlds.{start_with}
use Rattle.fl_world_laws.specs.Booted.{NumbersFall}
use Rattle.fl_cores_file.specs.Jobs.{Job}
use Rattle.fl_cores_file.specs.Report.{TheReport}
use Rattle.fl_world.specs.Booting.{TheConfig}
use Rattle.fl_cores.specs.Behind.{joined_in}
use Rattle.fl_cores.specs.OneCore.{rule_in, begins}
use Rattle.fl_cores.specs.Promised.{Reports}
use Rattle.fl_cores_joined.specs.Joined.{JoinedCore, AreWhole}
use Rattle.fl_cores_joined.specs.RenamedRuns.{all_under, RunsUnderSome}
use Rattle.fl_cores_joined.specs.Steps.{Moment, Interleaves}
use Rattle.fl_cores_joined.specs.Runs.{asked_in, events_of, AllAreNumbered}
use Rattle.fl_cores_whole.specs.Whole.{begun}

-- the machine's events before the cores', which set things up and set the jobs' rules
abbrev pub events_before : TheConfig → List Job → List Event
events_before c jobs = c.setup ++ flat_map rule_in jobs

-- where it has come, once the cores have done this
abbrev pub state_after : TheConfig → List Job → List Exchange → State
state_after c jobs exchanges = reached (begins c jobs) (events_of exchanges)

pub record KeepsLaws (c : TheConfig) (jobs : List Job) (exchanges : List Exchange) : Type 0 where
  -- no core meets a fault of received fragments, or a circuit without an entry
  pub no_faults : (n : ℕ) (x : Exchange) (fault : ℕ) → slice_get exchanges n ≡ Some x
      → x.answer ≡ refused fault → is_wire_fault fault ≡ false
  -- the calls that an end handled are a prefix of those that the other end accepted, in order, with equal
  -- arguments
  pub handled : (e : EndId)
      → IsPrefix (calls_handled e (run (start_with c.cores) (events_before c jobs) ++ exchanges))
      (accepted_by (state_after c jobs exchanges) (peer e))
  -- no more fragments of an end's calls have passed a station of their way than the one before it
  pub passed : NumbersFall (state_after c jobs exchanges)
  -- a circuit's number on a link was given once, whichever of the two cores gave it
  pub once : NumbersAreOnceBothWays (state_after c jobs exchanges)

abbrev pub ReportsHold : Type 0
ReportsHold = (c : TheConfig) (jobs : List Job) (limit : ℕ) (r : TheReport) (w : Reports c jobs limit r)
    (moments : List Moment) (ys : List JoinedCore)
    → (h : Interleaves (joined_in w).jobs (begun w) moments ys) → AreWhole ys
    → AllAreNumbered (joined_in w).jobs (begins c jobs) (begun w) moments ys h
    → KeepsLaws c jobs (asked_in (joined_in w).jobs (begun w) moments ys h)

-- So it does of each run from behind the set-up in which bindings have other numbers: of what the machine was asked,
-- under them.
abbrev pub RunsUnderSomeHold : Type 0
RunsUnderSomeHold = (c : TheConfig) (jobs : List Job) (limit : ℕ) (r : TheReport) (w : Reports c jobs limit r)
    (links : ℕ → Bool) (moments : List Moment) (exchanges : List Exchange) (ys : List JoinedCore)
    → (under : RunsUnderSome links moments exchanges (begins c jobs) ys)
    → KeepsLaws c jobs (all_under under.renaming exchanges)
