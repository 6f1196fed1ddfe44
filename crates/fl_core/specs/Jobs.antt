-- What the jobs at places of a core's list ask for: calls, and reply rules.
use Rattle.std.specs.Prelude.{ℕ, ◌≡◌, Bool, true, false, List, [], ◌∷◌, ◌++◌, slice_get, Option, Some, None}
use Rattle.fl_value_data.specs.Value.{TheCall, call_of}
use Rattle.fl_core.specs.declared.core_job.CoreJob.{CoreJob}
use Rattle.fl_core.specs.declared.core_job.CoreJob.TheVariants as job

-- ---- calls

-- the call of a job that is one
abbrev pub calls_of_job : Option CoreJob → List TheCall
calls_of_job (Some (job.Call e call)) = call_of call ∷ []
calls_of_job other = []

-- the calls of the jobs at these places
abbrev pub calls_of_jobs : List CoreJob → List ℕ → List TheCall
calls_of_jobs jobs [] = []
calls_of_jobs jobs (place ∷ places) = calls_of_job (slice_get jobs place) ++ calls_of_jobs jobs places

-- ---- reply rules

-- a job that sets a rule
abbrev pub is_rule : Option CoreJob → Bool
is_rule None = false
is_rule (Some (job.Open request)) = false
is_rule (Some (job.Reply e msg reply)) = true
is_rule (Some (job.Call e call)) = false

-- a job that comes before its end takes anything: it opens a circuit, or sets a rule
abbrev pub is_before_calls : Option CoreJob → Bool
is_before_calls None = false
is_before_calls (Some (job.Open request)) = true
is_before_calls (Some (job.Reply e msg reply)) = true
is_before_calls (Some (job.Call e call)) = false

-- of the jobs at these places none sets a rule; and none behind a call does
abbrev pub HasNoRule : List CoreJob → List ℕ → Type 0
HasNoRule jobs [] = Unit {0}
HasNoRule jobs (place ∷ places) = (is_rule (slice_get jobs place) ≡ false) × HasNoRule jobs places

abbrev pub RulesLead : List CoreJob → List ℕ → Type 0
RulesLead jobs [] = Unit {0}
RulesLead jobs (place ∷ places) = (is_before_calls (slice_get jobs place) ≡ false → HasNoRule jobs places) × RulesLead jobs places
