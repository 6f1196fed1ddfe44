-- What an end's progress has in the end, where it was new at the start.
use Rattle.std.proofs.Common.{◌≡◌, refl, sym, ap, ◌∙◌, ℕ, List, [], ◌++◌, map, take, drop, slice_get, Option, Some, None}
use Rattle.std.specs.Prelude.{IsSome}
use Rattle.fl_base.specs.declared.identity.EndId.{EndId}
use Rattle.fl_base.specs.Prefix.{IsPrefix}
use Rattle.fl_base.specs.Given.{given}
use Rattle.fl_value_data.specs.declared.value.Call.{Call}
use Rattle.fl_value_data.specs.Value.{TheCall, call_of}
use Rattle.fl_ring.specs.SharedSides.{TheSide}
use Rattle.fl_core.specs.declared.core_job.CoreJob.{CoreJob}
use Rattle.fl_core_run.specs.EndProgress.{TheEndProgress, progress_place}
use Rattle.fl_core_run.specs.Run.{TheRun}
use Rattle.fl_core.specs.Jobs.{calls_of_jobs}
use Rattle.fl_core_run_laws.specs.Logs.{ProgressTellHandled, in_progress, handled_of, handled_at}
use Rattle.fl_core_run_laws.specs.Made.{LogsMakeJobs, DoneAreFirst, handed_at, done_at, done_of, handed_in, made_at}
use Rattle.fl_core_run_laws.specs.Carried.{calls_handled, jobs_left}
use Rattle.fl_cores_jobs.specs.EndWork.{TheEndWork}
use Rattle.fl_cores_laws.specs.Cores.{OneCore, Went, shared_ways}
use Rattle.fl_cores_laws.specs.Ends.{HasProgress}
use Rattle.fl_cores_laws.specs.Told.{handled_by}

-- ---- one end's progress

has_place : (o : Option ℕ) (progresses : List TheEndProgress) (progress : TheEndProgress) → given o None (λ n. slice_get progresses n) ≡ Some progress → IsSome o
has_place None progresses progress is = absurd (cc)
has_place (Some n) progresses progress is = refl

handled_there : (o : Option ℕ) (progresses : List TheEndProgress) (progress : TheEndProgress) → given o None (λ n. slice_get progresses n) ≡ Some progress
    → given o [] (λ n. in_progress (slice_get progresses n)) ≡ progress.handled
handled_there None progresses progress is = absurd (cc)
handled_there (Some n) progresses progress is = ap in_progress is

none_taken : (jobs : List CoreJob) (places : List ℕ) (n : ℕ) → n ≡ 0 → calls_of_jobs jobs (take n places) ≡ []
none_taken jobs places n is = ap (λ (k : ℕ). calls_of_jobs jobs (take k places)) is

module _ (d : TheEndWork) (s : TheRun TheSide) (e : EndId) (h : HasProgress d s e) where
  pub placed : IsSome (progress_place s.progresses e)
  placed = has_place (progress_place s.progresses e) s.progresses h.progress h.progress_is

  none_handled : handled_of s e ≡ []
  none_handled = handled_there (progress_place s.progresses e) s.progresses h.progress h.progress_is ∙ h.none_handled

  none_done : (jobs : List CoreJob) → done_of jobs s e ≡ []
  none_done jobs = ap (done_at jobs) h.progress_is ∙ none_taken jobs h.progress.jobs h.progress.done h.none_done

  all_handed : (jobs : List CoreJob) → handed_in jobs s e ≡ calls_of_jobs jobs d.jobs
  all_handed jobs = ap (handed_at jobs) h.progress_is ∙ ap (calls_of_jobs jobs) h.jobs

  pub all_left : jobs_left s e ≡ d.jobs
  all_left =
      ap (λ (o : Option TheEndProgress). given o [] (λ (progress : TheEndProgress). drop progress.done progress.jobs)) h.progress_is
      ∙ ap (λ (n : ℕ). drop n h.progress.jobs) h.none_done ∙ h.jobs

-- ---- in the end

module _ (handled : ProgressTellHandled shared_ways) (made : LogsMakeJobs shared_ways) (first : DoneAreFirst shared_ways) (jobs : List CoreJob) (d : TheEndWork) (e : EndId) (c : OneCore) (h : HasProgress d c.start e) (w : Went jobs c) where
  pub handled_is : handled_by c.finish e ≡ calls_handled e c.log
  handled_is =
      ap (λ (calls : List Call). map call_of calls)
      (handled jobs c.start c.finish c.log e (placed d c.start e h) w.goes
      ∙ ap (λ (calls : List Call). calls ++ handled_at e c.log) (none_handled d c.start e h))

  pub done_is : done_of jobs c.finish e ≡ made_at e c.log
  done_is =
      (made jobs c.start c.finish c.log e (placed d c.start e h) w.goes).done
      ∙ ap (λ (calls : List TheCall). calls ++ made_at e c.log) (none_done d c.start e h jobs)

  pub done_first : IsPrefix (done_of jobs c.finish e) (calls_of_jobs jobs d.jobs)
  done_first =
      let p = first jobs c.finish e in
      (p.0, sym (all_handed d c.start e h jobs) ∙ sym (made jobs c.start c.finish c.log e (placed d c.start e h) w.goes).handed ∙ p.1)
