-- What is handed in at each end, and how many calls are to be handled there.
use Rattle.std.specs.Prelude.{ℕ, ◌≡◌, ◌≢◌, ◌==◌, ◌++◌, suc, nat_lt, Bool, true, false, if◌then◌else◌, List, [], ◌∷◌, length, slice_get, Option, Some, None}
use Rattle.std.specs.List.{flat_map}
use Rattle.fl_base.specs.declared.identity.EndId.{EndId}
use Rattle.fl_base.specs.declared.identity.MsgNo.{MsgNo}
use Rattle.fl_base.specs.Ends.{peer}
use Rattle.fl_base.specs.Given.{given}
use Rattle.fl_value_data.specs.Value.{TheCall, call_of}
use Rattle.fl_model.specs.Runs.{same_end}
use Rattle.fl_core.specs.View.{slot_of, client_of}
use Rattle.fl_core.specs.declared.core_job.CoreJob.{CoreJob}
use Rattle.fl_core.specs.declared.core_job.CoreJob.TheVariants as job
use Rattle.fl_core.specs.declared.core_job.OpenRequest.{OpenRequest}
use Rattle.fl_core.specs.Jobs.{calls_of_jobs}
use Rattle.fl_cores_file.specs.Jobs.{Job, own_calls, rule_for, has_rules}
use Rattle.fl_cores_jobs.specs.declared.end_work.EndWork.{EndWork}

pub record TheEndWork : Type 0 where
  -- the places of its jobs among all, in order
  pub jobs : List ℕ
  -- whether one of them is a call
  pub makes_calls : Bool
  -- by message the answer of its reply rule; empty where the end has no rules
  pub rules : List (Option MsgNo)
  -- how many calls are to be handled there
  pub due : ℕ

abbrev pub end_work_of : EndWork → TheEndWork
end_work_of d = record { jobs = d.jobs.items; makes_calls = d.makes_calls; rules = d.rules.items; due = d.due }

abbrev pub no_end_work : TheEndWork
no_end_work = record { jobs = []; makes_calls = false; rules = []; due = 0 }

-- that of an end: the client's of binding b stands at 2 b, its server's behind it
abbrev pub end_work_at : List TheEndWork → EndId → TheEndWork
end_work_at end_works e = given (slice_get end_works (slot_of e)) no_end_work λ d. d

-- the answer of the rule for a message
abbrev pub answer_in : Option MsgNo → Option ℕ
answer_in None = None
answer_in (Some answer) = Some answer.0

abbrev pub rule_at : List (Option MsgNo) → ℕ → Option ℕ
rule_at rules msg = given (slice_get rules msg) None answer_in

abbrev pub is_ruled : TheEndWork → Bool
is_ruled d = nat_lt 0 (length d.rules)

-- one job more
abbrev pub with_place : ℕ → TheEndWork → TheEndWork
with_place place d = record d { jobs = d.jobs ++ place ∷ [] }

-- a rule more, or another one for the message; nothing else has changed
pub record Rules (msg answer : ℕ) (d d2 : TheEndWork) : Type 0 where
  pub put : (m : ℕ) → rule_at d2.rules m ≡ (if msg == m then Some answer else rule_at d.rules m)
  pub some : is_ruled d2 ≡ true
  pub rest : d2 ≡ record d { rules = d2.rules }

-- ---- the cores' jobs

-- the end at which a core does a job
abbrev pub end_of : CoreJob → EndId
end_of (job.Open request) = client_of request.opening.binding
end_of (job.Reply e msg reply) = e
end_of (job.Call e call) = e

-- the places of an end's jobs, in order, where the first has this one
abbrev pub places_of : EndId → ℕ → List CoreJob → List ℕ
places_of e place [] = []
places_of e place (j ∷ jobs) = if same_end e (end_of j) then place ∷ places_of e (suc place) jobs else places_of e (suc place) jobs

-- the calls that they make at an end, in order
abbrev pub calls_at : EndId → CoreJob → List TheCall
calls_at e (job.Call f call) = if same_end e f then call_of call ∷ [] else []
calls_at e job = []

abbrev pub core_calls : List CoreJob → EndId → List TheCall
core_calls jobs e = flat_map (calls_at e) jobs

-- ---- what they set and open

-- the rule for a message behind a job, where it was this before
abbrev pub rule_behind : ℕ → Option ℕ → Option CoreJob → Option ℕ
rule_behind msg rule (Some (job.Reply e m reply)) = if m.0 == msg then Some reply.0 else rule
rule_behind msg rule j = rule

-- and behind the jobs at these places, done one after another
abbrev pub rule_by : List CoreJob → ℕ → Option ℕ → List ℕ → Option ℕ
rule_by jobs msg rule [] = rule
rule_by jobs msg rule (place ∷ places) = rule_by jobs msg (rule_behind msg rule (slice_get jobs place)) places

-- just one job opens a binding, of this interface, and it is the first of these places
pub record OpensFirst (jobs : List CoreJob) (places : List ℕ) (binding interface : ℕ) : Type 0 where
  pub request : OpenRequest
  pub place : ℕ
  pub place_is : slice_get jobs place ≡ Some (job.Open request)
  pub binding_is : request.opening.binding ≡ binding
  pub interface_is : request.interface ≡ interface
  pub behind : List ℕ
  pub first : places ≡ place ∷ behind
  pub alone : (n : ℕ) (w : OpenRequest) → slice_get jobs n ≡ Some (job.Open w) → w.opening.binding ≡ binding → n ≡ place

-- no job opens it
abbrev pub OpensNever : List CoreJob → ℕ → Type 0
OpensNever jobs binding = (n : ℕ) (w : OpenRequest) → slice_get jobs n ≡ Some (job.Open w) → w.opening.binding ≢ binding

-- ---- how many calls are to be handled

abbrev pub reply_by : List (Option MsgNo) → TheCall → List TheCall
reply_by rules c = given (rule_at rules c.msg) [] λ answer. record { msg = answer; args = c.args } ∷ []

-- at an end: the calls of the other end's jobs or, where that has rules, the replies by these to the calls of its own
abbrev pub due_in : List CoreJob → TheEndWork → TheEndWork → ℕ
due_in jobs here across =
    if is_ruled across then length (flat_map (reply_by across.rules) (calls_of_jobs jobs here.jobs)) else length (calls_of_jobs jobs across.jobs)

-- ---- an end's work

abbrev pub are_some : List TheCall → Bool
are_some [] = false
are_some (c ∷ calls) = true

-- what is asked of the end by the jobs
pub record IsAsked (jobs : List Job) (e : EndId) (d : TheEndWork) : Type 0 where
  pub calls : d.makes_calls ≡ are_some (own_calls jobs e)
  pub rules : (msg : ℕ) → rule_at d.rules msg ≡ rule_for jobs e msg
  pub ruled : is_ruled d ≡ has_rules jobs e
  -- an end with rules makes no calls of its own, and the other end has no rules
  pub alone : has_rules jobs e ≡ true → own_calls jobs e ≡ []
  pub one_side : has_rules jobs e ≡ true → has_rules jobs (peer e) ≡ false

-- the end's work of an end has just the jobs that are done there, which make the calls that are asked of it
pub record IsEndWork (wanted : List Job) (jobs : List CoreJob) (e : EndId) (d : TheEndWork) : Type 0 where
  pub places : d.jobs ≡ places_of e 0 jobs
  pub calls : core_calls jobs e ≡ own_calls wanted e
  pub asked : IsAsked wanted e d
