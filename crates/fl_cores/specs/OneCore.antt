-- The report of a run of one core: a function of the configuration, the jobs and the limit. Public promises rest on this file.
use Rattle.std.specs.Prelude.{ℕ, ◌≡◌, Bool, true, false, List, [], ◌∷◌, map, length, None}
use Rattle.std.specs.List.{flat_map, range_with_len}
use Rattle.fl_base.specs.declared.identity.EndId.{EndId}
use Rattle.fl_base.specs.Ends.{peer}
use Rattle.fl_base.specs.Given.{given}
use Rattle.fl_value_data.specs.Value.{TheCall}
use Rattle.fl_core.specs.View.{client_of, server_of}
use Rattle.fl_model.specs.Events.{Event, reply}
use Rattle.fl_model.specs.Laws.{accepted_by}
use Rattle.fl_model.specs.Monitors.{Core}
use Rattle.fl_model.specs.Runs.{reached}
use Rattle.fl_model.specs.State.{State, core_of}
use Rattle.fl_model.specs.Worlds.{start_with}
use Rattle.fl_cores_file.specs.CoresFile.{CoresFile}
use Rattle.fl_cores_file.specs.Jobs.{Job, replies, own_calls, handed_in}
use Rattle.fl_cores_file.specs.Report.{TheReport, Ending, complete, turns_out}
use Rattle.fl_world.specs.Booting.{TheConfig}
use Rattle.fl_cores.specs.Promised.{cores_by, config_in, Reports}
use Rattle.fl_cores_fork.specs.Tells.{both_at}
use Rattle.fl_core_refines.specs.AloneCalls.{CallProgress, CallRun, post_at, CallTask, turned, is_finished, counted}

-- ---- with what the core begins

-- the machine's event that sets the reply rule of a job
abbrev pub rule_in : Job → List Event
rule_in (replies e msg answer) = reply e msg answer ∷ []
rule_in job = []

-- the machine behind the set-up, with the rules of the jobs
abbrev pub begins : TheConfig → List Job → State
begins c jobs = reached (reached (start_with c.cores) c.setup) (flat_map rule_in jobs)

-- the two ends of each binding that it has, the client's first
abbrev pub both_ends : ℕ → List EndId
both_ends n = client_of n ∷ server_of n ∷ []

abbrev pub ends_in : State → List EndId
ends_in s = flat_map both_ends (range_with_len 0 (length s.bindings))

-- at an end: the calls of its jobs are to be made, and as many handled as are handed in at the other end
abbrev pub post_for : List Job → EndId → CallProgress
post_for jobs e = record { calls = own_calls jobs e; made = 0; due = length (handed_in jobs (peer e)); handled = [] }

abbrev pub solo_for : TheConfig → List Job → CallRun
solo_for c jobs = record { state = begins c jobs; posts = map (post_for jobs) (ends_in (begins c jobs)) }

-- its turns go over all ends, and over the dispatchers of the one core
abbrev pub span_in : State → CallTask
span_in s = record { ends = ends_in s; dispatchers = given (core_of s 0) 0 λ (k : Core). length k.dispatchers }

-- ---- what it comes to

-- how many turns there are: the first number after which nothing is left to do, or the limit
abbrev pub turns_of : TheConfig → List Job → ℕ → ℕ
turns_of c jobs limit = counted (span_in (begins c jobs)) limit (solo_for c jobs)

-- the machine, and the calls of its ends, after these
abbrev pub comes_to : TheConfig → List Job → ℕ → CallRun
comes_to c jobs limit = turned (span_in (begins c jobs)) (turns_of c jobs limit) (solo_for c jobs)

-- ---- what is told of it

-- an end made the calls that the machine accepted from it, its replies by rule among them: behind the set-up there were none
abbrev pub made_at : CallRun → EndId → List TheCall
made_at a e = accepted_by a.state e

abbrev pub handled_at : CallRun → EndId → List TheCall
handled_at a e = given (post_at a e) [] λ p. p.handled

abbrev pub ending_of : Bool → Ending
ending_of true = complete
ending_of false = turns_out

-- the calls of each end, by binding; that no binding was refused; the turns; and `complete` just where nothing is left to do
abbrev pub told_of : CallTask → ℕ → ℕ → CallRun → TheReport
told_of p bindings turns a = record {
  made = map (both_at (made_at a)) (range_with_len 0 bindings);
  handled = map (both_at (handled_at a)) (range_with_len 0 bindings);
  refused = map (λ n. None) (range_with_len 0 bindings);
  turns = turns ∷ [];
  ending = ending_of (is_finished p a);
}

abbrev pub report_of_one : TheConfig → List Job → ℕ → TheReport
report_of_one c jobs limit =
    told_of (span_in (begins c jobs)) (length (begins c jobs).bindings) (turns_of c jobs limit) (comes_to c jobs limit)

-- ---- what is promised

-- where the set-up makes one core, the report is that: no job opens a binding then
abbrev pub IsThatOfOne : TheConfig → List Job → ℕ → TheReport → Type 0
IsThatOfOne c jobs limit r = cores_by c ≡ 1 → r ≡ report_of_one c jobs limit

-- and so it is of a cores file
abbrev pub IsThatOfFile : CoresFile → ℕ → TheReport → Type 0
IsThatOfFile file limit r = IsThatOfOne (config_in file) file.jobs limit r

-- so it is of each report of a run. Law
abbrev pub RunsOfOneCore : Type 0
RunsOfOneCore = (c : TheConfig) (jobs : List Job) (limit : ℕ) (r : TheReport) → Reports c jobs limit r → IsThatOfOne c jobs limit r
