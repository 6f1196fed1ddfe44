-- A working file, on which no public promise rests by itself: what is kept from job to job: which rules jobs set, and which bindings they open.
use Rattle.std.specs.Prelude.{ℕ, ◌≡◌, ◌==◌, ◌<◌, ◌≤◌, ◌&&◌, Bool, false, if◌then◌else◌, List, [], ◌∷◌, length, slice_get, Option, Some, None}
use Rattle.std.specs.List.{list_any}
use Rattle.fl_base.specs.declared.identity.EndId.{EndId}
use Rattle.fl_base.specs.Given.{given}
use Rattle.fl_model.specs.Runs.{same_end}
use Rattle.fl_core.specs.View.{client_of}
use Rattle.fl_core.specs.declared.core_job.CoreJob.{CoreJob}
use Rattle.fl_core.specs.declared.core_job.CoreJob.TheVariants as job
use Rattle.fl_world_refines.specs.declared.binding.Binding.{Binding}
use Rattle.fl_cores_file.specs.Jobs.{Job, rule_for, has_rules}
use Rattle.fl_cores_jobs.specs.declared.end_work.BindingCores.{BindingCores}
use Rattle.fl_cores_jobs.specs.EndWork.{places_of, OpensFirst, OpensNever}
use Rattle.fl_cores_jobs.specs.State.{TheJoinedJobs}

-- ---- rules

-- the reply that a core's job sets for a message at an end
abbrev pub core_rule_in : EndId → ℕ → CoreJob → Option ℕ
core_rule_in e msg (job.Reply f m reply) = if same_end e f && (m.0 == msg) then Some reply.0 else None
core_rule_in e msg j = None

-- the rule for a message at an end behind jobs, where it was this before
abbrev pub core_rule : EndId → ℕ → Option ℕ → List CoreJob → Option ℕ
core_rule e msg rule [] = rule
core_rule e msg rule (j ∷ jobs) = core_rule e msg (given (core_rule_in e msg j) rule λ later. Some later) jobs

abbrev pub is_core_rule : EndId → CoreJob → Bool
is_core_rule e (job.Reply f m reply) = same_end e f
is_core_rule e j = false

abbrev pub has_core_rules : List CoreJob → EndId → Bool
has_core_rules jobs e = list_any (is_core_rule e) jobs

-- at an end of the first bindings, which are set up, jobs set no rules; at any other just those that are asked for
pub record RulesFrom (first : ℕ) (asked : List Job) (jobs : List CoreJob) (e : EndId) : Type 0 where
  pub none : e.binding < first → has_core_rules jobs e ≡ false
  pub some : first ≤ e.binding → has_core_rules jobs e ≡ has_rules asked e
  pub same : first ≤ e.binding → (msg : ℕ) → core_rule e msg None jobs ≡ rule_for asked e msg

-- ---- openings

-- of each binding that a job opens just one opens it, the first of the client's end; none opens any other
pub record AreOpened (jobs : List CoreJob) (bindings : List BindingCores) : Type 0 where
  pub opened : (n : ℕ) (b : BindingCores) (number : ℕ) → slice_get bindings n ≡ Some b → b.opened ≡ Some number
      → OpensFirst jobs (places_of (client_of n) 0 jobs) n b.interface
  pub set_up : (n : ℕ) (b : BindingCores) → slice_get bindings n ≡ Some b → b.opened ≡ None → OpensNever jobs n

-- ---- both

pub record AreKept (set_up : List Binding) (asked : List Job) (j : TheJoinedJobs) : Type 0 where
  pub rules : (e : EndId) → RulesFrom (length set_up) asked j.jobs e
  pub opened : AreOpened j.jobs j.bindings
