-- What ends' progress and parts tell, place by place.
use Rattle.std.proofs.Common.{◌≡◌, refl, sym, ap, ◌∙◌, ℕ, zero, suc, ◌+◌, ◌<◌, ◌≤◌, Bool, ◌||◌, List, [], ◌∷◌, ◌++◌, map, length, drop, get_or, slice_get, Some, arith}
use Rattle.std.specs.List.{list_any, range_with_len}
use Rattle.std.proofs.lemmas.List.{map-append}
use Rattle.std.proofs.lemmas.List.FromFn.{map-range_with_len_more}
use Rattle.fl_core.specs.declared.core_job.CoreJob.{CoreJob}
use Rattle.fl_core.specs.Jobs.{calls_of_job, calls_of_jobs}
use Rattle.fl_cores_file.specs.declared.report.CallsByEnd.{CallsByEnd as RustBoth}
use Rattle.fl_cores_file.specs.Report.{BothEnds}
use Rattle.fl_cores_file.specs.Reports.{both_of}
use Rattle.fl_cores_fork.specs.declared.core_thread.FinishedCore.{FinishedCore}
use Rattle.fl_cores_fork.specs.Tells.{left_off, was_told}
use Rattle.fl_cores_fork.specs.CoreThreads.{outcome_of, has_left_off, has_been_told}

-- the calls of the places from one on are its own and those of the rest
pub calls_more : (jobs : List CoreJob) (places : List ℕ) (k p : ℕ) → k < length places → p ≡ get_or places k p
    → calls_of_jobs jobs (drop k places) ≡ calls_of_job (slice_get jobs p) ++ calls_of_jobs jobs (drop (suc k) places)
calls_more jobs [] k p h is = absurd (omega (arith, h))
calls_more jobs (q ∷ places) zero p h is = ap (λ (i : ℕ). calls_of_job (slice_get jobs i) ++ calls_of_jobs jobs places) (sym is)
calls_more jobs (q ∷ places) (suc k) p h is = calls_more jobs places k p (omega (arith, h)) is

-- the call of a job that is there, or isn't
pub no_call : (jobs : List CoreJob) (p : ℕ) → length jobs ≤ p → calls_of_job (slice_get jobs p) ≡ []
no_call [] p past = refl
no_call (job ∷ jobs) zero past = absurd (omega (arith, past))
no_call (job ∷ jobs) (suc p) past = no_call jobs p (omega (arith, past))

pub call_there : (jobs : List CoreJob) (p : ℕ) (job : CoreJob) → p < length jobs → job ≡ get_or jobs p job
    → calls_of_job (slice_get jobs p) ≡ calls_of_job (Some job)
call_there [] p job below is = absurd (omega (arith, below))
call_there (j ∷ jobs) zero job below is = ap (λ (x : CoreJob). calls_of_job (Some x)) (sym is)
call_there (j ∷ jobs) (suc p) job below is = call_there jobs p job (omega (arith, below)) is

-- one binding more
pub by_more : {A : Type 0} (what : ℕ → A) (n : ℕ) → map what (range_with_len 0 (n + 1)) ≡ map what (range_with_len 0 n) ++ what n ∷ []
by_more what n = map-range_with_len_more what 0 n n (omega arith)

-- whether one passes a test of what came of it
any_of : {X Y : Type 0} (p : Y → Bool) (f : X → Y) (xs : List X) → list_any p (map f xs) ≡ list_any (λ x. p (f x)) xs
any_of p f [] = refl
any_of p f (x ∷ xs) = ap (λ (b : Bool). p (f x) || b) (any_of p f xs)

pub any_left : (ds : List FinishedCore) → list_any left_off (map outcome_of ds) ≡ list_any has_left_off ds
any_left ds = any_of left_off outcome_of ds

pub any_told : (ds : List FinishedCore) → list_any was_told (map outcome_of ds) ≡ list_any has_been_told ds
any_told ds = any_of was_told outcome_of ds

pub both_more : (what : ℕ → BothEnds) (n : ℕ) (all : List RustBoth) (b : RustBoth) → map both_of all ≡ map what (range_with_len 0 n) → both_of b ≡ what n
    → map both_of (all ++ b ∷ []) ≡ map what (range_with_len 0 (n + 1))
both_more what n all b so is =
    map-append both_of all (b ∷ []) ∙ ap (λ (bs : List BothEnds). bs ++ both_of b ∷ []) so
    ∙ ap (λ (x : BothEnds). map what (range_with_len 0 n) ++ x ∷ []) is ∙ sym (by_more what n)
