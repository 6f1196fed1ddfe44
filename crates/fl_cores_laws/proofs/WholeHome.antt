-- The tables of no core but its own lead to a binding's client's end.
use Rattle.std.proofs.Common.{◌≡◌, ◌⊎◌, inl, inr, sym, ap, ◌∙◌, ℕ, List, [], length, slice_get, Some, None}
use Rattle.fl_base.specs.declared.identity.EndId.{EndId}
use Rattle.fl_core.specs.View.{client_of}
use Rattle.fl_core.specs.declared.core_job.CoreJob.{CoreJob}
use Rattle.fl_core.specs.declared.core_job.CoreJob.TheVariants as job
use Rattle.fl_cores_file.specs.Jobs.{Job}
use Rattle.fl_cores_jobs.specs.declared.end_work.BindingCores.{BindingCores}
use Rattle.fl_cores_jobs.specs.EndWork.{end_work_at, end_of}
use Rattle.fl_cores_jobs.specs.Joined.{core_of}
use Rattle.fl_cores_jobs.specs.State.{TheJoinedJobs, AreJoined}
use Rattle.fl_cores_laws.specs.Whole.{HasOwn, ClientsAreHome}
use Rattle.fl_cores_laws.proofs.AskedEnds.{done_there}
use Rattle.fl_cores_laws.proofs.WholeOpened.{IsAsked, client_asked}

-- a job that stands among an end's places is done at that end
pub opener : (asked : List Job) (j : TheJoinedJobs) (count : ℕ) → AreJoined count asked j → (e : EndId) (own : List ℕ) (turn place : ℕ) (x : CoreJob) → own ≡ (end_work_at j.end_works e).jobs
    → slice_get own turn ≡ Some place → slice_get j.jobs place ≡ Some x → end_of x ≡ e
opener asked j count joined e own turn place x same at is =
    sym (done_there j.jobs e turn place x (sym (ap (λ (xs : List ℕ). slice_get xs turn) (same ∙ (joined.each e).places)) ∙ at) is)

pub at_home : ClientsAreHome
at_home asked j cores joined paired own n b is place c l number core_is leads = by (own place c a.name a.job.progress core_is a.job.progress_is) where
  a : IsAsked j.jobs c.start n
  a = client_asked j.jobs c (paired.leading place c core_is) (paired.unused place c core_is) l number n leads

  by : (a.job.progress.jobs ≡ []) ⊎ HasOwn j place a.name a.job.progress.jobs → place ≡ b.client
  by (inl none) = absurd (let no : None ≡ Some a.job.place = sym (ap (λ (xs : List ℕ). slice_get xs a.job.turn) none) ∙ a.job.place_is in cc)
  by (inr x) =
      let end = opener asked j (length cores) joined a.name a.job.progress.jobs a.job.turn a.job.place (job.Open a.request) x.jobs_are a.job.place_is a.job.job_is in
      let name : client_of n ≡ a.name = ap client_of (sym a.binding_is) ∙ end in
      let bounds : Some b ≡ Some x.bound = sym is ∙ ap (λ (e : EndId). slice_get j.bindings e.binding) name ∙ x.bound_is in
      let same : b ≡ x.bound = cc in
      sym x.core_is ∙ ap (λ (e : EndId). core_of e.side x.bound) (sym name) ∙ ap (λ (y : BindingCores). y.client) (sym same)
