-- Jobs joined so far, and what each of them changes.
use Rattle.std.specs.Prelude.{ℕ, ◌≡◌, ◌<◌, ◌*◌, Bool, true, false, if◌then◌else◌, List, [], ◌∷◌, ◌++◌, map, length, slice_get, Some, None}
use Rattle.fl_base.specs.declared.identity.EndId.{EndId}
use Rattle.fl_base.specs.declared.identity.MsgNo.{MsgNo}
use Rattle.fl_value_data.specs.declared.value.Call.{Call}
use Rattle.fl_base.specs.Ends.{peer}
use Rattle.fl_model.specs.Given.{changed_at}
use Rattle.fl_core.specs.View.{slot_of, client_of}
use Rattle.fl_core.specs.declared.core_job.CoreJob.{CoreJob}
use Rattle.fl_core.specs.declared.core_job.CoreJob.TheVariants as core
use Rattle.fl_core.specs.declared.core_job.OpenRequest.{OpenRequest}
use Rattle.fl_core.specs.Jobs.{HasNoRule, RulesLead}
use Rattle.fl_cores_file.specs.Jobs.{TheCircuitRequest, Job}
use Rattle.fl_cores_jobs.specs.declared.end_work.BindingCores.{BindingCores}
use Rattle.fl_cores_jobs.specs.declared.joining.JoinedJobs.{JoinedJobs}
use Rattle.fl_cores_jobs.specs.EndWork.{TheEndWork, end_work_of, no_end_work, end_work_at, with_place, end_of, is_ruled, rule_at, rule_by, due_in}
use Rattle.fl_cores_jobs.specs.EndWork.{IsEndWork, Rules, OpensFirst, OpensNever}
use Rattle.fl_cores_jobs.specs.Joined.{AreBindings}

-- the jobs as cores do them, bindings, ends' work by end, and of each job that opens a binding the core that does it
pub record TheJoinedJobs : Type 0 where
  pub jobs : List CoreJob
  pub bindings : List BindingCores
  pub end_works : List TheEndWork
  pub owners : List ℕ

abbrev pub joined_of : JoinedJobs → TheJoinedJobs
joined_of j = record { jobs = j.jobs.items; bindings = j.bindings.items; end_works = map end_work_of j.end_works.items; owners = j.owners.items }

abbrev pub nothing_joined : TheJoinedJobs
nothing_joined = record { jobs = []; bindings = []; end_works = []; owners = [] }

-- ---- one thing more

-- a binding, with nothing handed in at its ends
abbrev pub with_binding : BindingCores → TheJoinedJobs → TheJoinedJobs
with_binding x j = record j { bindings = j.bindings ++ x ∷ []; end_works = j.end_works ++ no_end_work ∷ no_end_work ∷ [] }

-- a core that opens a binding
abbrev pub with_owner : ℕ → TheJoinedJobs → TheJoinedJobs
with_owner core j = record j { owners = j.owners ++ core ∷ [] }

-- the end's work of an end has changed
abbrev pub changing : EndId → (TheEndWork → TheEndWork) → TheJoinedJobs → TheJoinedJobs
changing e change j = record j { end_works = changed_at (slot_of e) change j.end_works }

-- a job of an end
abbrev pub with_job : EndId → CoreJob → TheJoinedJobs → TheJoinedJobs
with_job e job j = record (changing e (with_place (length j.jobs)) j) { jobs = j.jobs ++ job ∷ [] }

abbrev pub with_calls : TheEndWork → TheEndWork
with_calls d = record d { makes_calls = true }

-- a reply rule of an end
pub record SetAt (e : EndId) (msg answer : ℕ) (end_works end_works2 : List TheEndWork) : Type 0 where
  pub end_work : TheEndWork
  pub rules : Rules msg answer (end_work_at end_works e) end_work
  pub rest : end_works2 ≡ changed_at (slot_of e) (λ d. end_work) end_works

-- a binding that a job opens, and that job: the client's core does it, and it opens the next binding, of the interface that is asked for
pub record Opened (cores : ℕ) (w : TheCircuitRequest) (j j2 : TheJoinedJobs) : Type 0 where
  pub bound : BindingCores
  pub request : OpenRequest
  pub client : bound.client < cores
  pub server : bound.server < cores
  pub owner : bound.client ≡ w.client.core
  pub interface : bound.interface ≡ w.interface
  pub opened : bound.opened ≡ Some (length j.owners)
  pub dispatcher : request.dispatcher ≡ w.client.place
  pub program : request.interface ≡ w.interface
  pub binding : request.opening.binding ≡ length j.bindings
  pub few : length j.bindings < 1024
  pub rest : j2 ≡ with_job (client_of (length j.bindings)) (core.Open request) (with_owner bound.client (with_binding bound j))

-- a call is planned: at an end of a binding, which has no rules
pub record CallPlanned (e : EndId) (call : Call) (j j2 : TheJoinedJobs) : Type 0 where
  pub within : e.binding < length j.bindings
  pub free : is_ruled (end_work_at j.end_works e) ≡ false
  pub rest : j2 ≡ with_job e (core.Call e call) (changing e with_calls j)

-- a rule is planned: at an end of a binding, which makes no calls, and whose other end has no rules; an end that isn't there sets it by a job
pub record RulePlanned (is_there : Bool) (e : EndId) (msg answer : MsgNo) (j j2 : TheJoinedJobs) : Type 0 where
  pub within : e.binding < length j.bindings
  pub free : (end_work_at j.end_works e).makes_calls ≡ false
  pub alone : is_ruled (end_work_at j.end_works (peer e)) ≡ false
  pub end_works : List TheEndWork
  pub set : SetAt e msg.0 answer.0 j.end_works end_works
  pub rest : j2 ≡ (if is_there then record j { end_works = end_works } else with_job e (core.Reply e msg answer) (record j { end_works = end_works }))

-- ---- what is known

abbrev pub IsSafe : ℕ → TheJoinedJobs → Type 0
IsSafe cores j = AreBindings cores j.bindings j.owners × (length j.end_works ≡ 2 * length j.bindings)

-- these jobs stand in the ends' work of their ends, on so many cores
pub record ArePlaced (cores : ℕ) (asked : List Job) (j : TheJoinedJobs) : Type 0 where
  pub bindings : AreBindings cores j.bindings j.owners
  pub end_works : length j.end_works ≡ 2 * length j.bindings
  pub each : (e : EndId) → IsEndWork asked j.jobs e (end_work_at j.end_works e)
  -- each is done at an end of a binding
  pub there : (n : ℕ) (job : CoreJob) → slice_get j.jobs n ≡ Some job → (end_of job).binding < length j.bindings

-- these jobs are joined: so placed, and of each end and binding it is told where its rules come from, and what opens it
pub record AreJoined (cores : ℕ) (asked : List Job) (j : TheJoinedJobs) : Type 0 where
  pub bindings : AreBindings cores j.bindings j.owners
  pub end_works : length j.end_works ≡ 2 * length j.bindings
  pub each : (e : EndId) → IsEndWork asked j.jobs e (end_work_at j.end_works e)
  pub there : (n : ℕ) (job : CoreJob) → slice_get j.jobs n ≡ Some job → (end_of job).binding < length j.bindings
  -- no job sets a rule at an end without rules, and none behind a call does
  pub unruled : (e : EndId) → is_ruled (end_work_at j.end_works e) ≡ false → HasNoRule j.jobs (end_work_at j.end_works e).jobs
  pub lead : (e : EndId) → RulesLead j.jobs (end_work_at j.end_works e).jobs
  -- nor does one at an end of a binding that no job opens
  pub at_once : (e : EndId) (b : BindingCores) → slice_get j.bindings e.binding ≡ Some b → b.opened ≡ None → HasNoRule j.jobs (end_work_at j.end_works e).jobs
  -- at an end of one that a job opens its jobs set the rules of its end's work
  pub later : (e : EndId) (b : BindingCores) (job : ℕ) → slice_get j.bindings e.binding ≡ Some b → b.opened ≡ Some job
      → (msg : ℕ) → rule_at (end_work_at j.end_works e).rules msg ≡ rule_by j.jobs msg None (end_work_at j.end_works e).jobs
  -- that job is the first of the client's end, and opens nothing else
  pub opened : (n : ℕ) (b : BindingCores) (job : ℕ) → slice_get j.bindings n ≡ Some b → b.opened ≡ Some job
      → OpensFirst j.jobs (end_work_at j.end_works (client_of n)).jobs n b.interface
  pub set_up : (n : ℕ) (b : BindingCores) → slice_get j.bindings n ≡ Some b → b.opened ≡ None → OpensNever j.jobs n

-- ---- how many calls are due

abbrev pub with_due : ℕ → TheEndWork → TheEndWork
with_due n d = record d { due = n }

-- all but that
abbrev pub undue : TheEndWork → TheEndWork
undue d = with_due 0 d

-- those at the first ends are told; nothing else has changed
pub record DuesUpTo (n : ℕ) (j j2 : TheJoinedJobs) : Type 0 where
  pub jobs : j2.jobs ≡ j.jobs
  pub bindings : j2.bindings ≡ j.bindings
  pub owners : j2.owners ≡ j.owners
  pub count : length j2.end_works ≡ length j.end_works
  pub rest : (e : EndId) → undue (end_work_at j2.end_works e) ≡ undue (end_work_at j.end_works e)
  pub due : (e : EndId) → slot_of e < n → (end_work_at j2.end_works e).due ≡ due_in j.jobs (end_work_at j.end_works e) (end_work_at j.end_works (peer e))
