-- Where an end sits that is made in a run: at the dispatcher that its job asks for, or at that of the service. Law.
use Rattle.std.specs.Prelude.{ℕ, ◌≡◌, List, slice_get, Some}
use Rattle.fl_base.specs.declared.identity.EndId.{EndId}
use Rattle.fl_base.specs.declared.identity.Side.{Side}
use Rattle.fl_base.specs.declared.identity.Side.TheVariants.{Client, Server}
use Rattle.fl_compile.specs.Programs.{TheProgram}
use Rattle.fl_core.specs.BoardView.{TheEndAtChannel}
use Rattle.fl_nameserv.specs.Registrations.{TheRegistration, by_iref}
use Rattle.fl_core.specs.declared.core_job.CoreJob.TheVariants as job
use Rattle.fl_core.specs.declared.core_job.OpenRequest.{OpenRequest}
use Rattle.fl_cores_file.specs.Jobs.{Job}
use Rattle.fl_cores_jobs.specs.declared.end_work.BindingCores.{BindingCores}
use Rattle.fl_cores_jobs.specs.Joined.{core_of}
use Rattle.fl_cores_jobs.specs.State.{TheJoinedJobs}
use Rattle.fl_cores_laws.specs.Asked.{SatAt, IsMade}
use Rattle.fl_cores_laws.specs.Cores.{shared_ways, OneCore}
use Rattle.fl_cores_laws.specs.Runs.{AreSetUp}

-- the service for which it requests is offered by core n, at dispatcher d
pub record IsServedAt (names : List TheRegistration) (w : OpenRequest) (n d : ℕ) : Type 0 where
  pub registration : TheRegistration
  pub service : by_iref w.opening.service.0 names ≡ Some registration
  pub core_is : registration.service.core.0 ≡ n
  pub dispatcher : registration.service.dispatcher ≡ d

-- the end of a side is to sit there: a client's at the dispatcher that is asked for
abbrev pub IsToSit : List TheRegistration → OpenRequest → ℕ → Side → ℕ → Type 0
IsToSit names w n Client d = w.dispatcher ≡ d
IsToSit names w n Server d = IsServedAt names w n d

-- an end of core n, of a binding that a job opens, sat at the dispatcher at which it is to sit
pub record SitsAsRequested (j : TheJoinedJobs) (names : List TheRegistration) (n : ℕ) (c : OneCore) (e : EndId) : Type 0 where
  pub bound : BindingCores
  pub bound_is : slice_get j.bindings e.binding ≡ Some bound
  pub core_is : core_of e.side bound ≡ n
  pub place : ℕ
  pub request : OpenRequest
  pub job_is : slice_get j.jobs place ≡ Some (job.Open request)
  pub binding_is : request.opening.binding ≡ e.binding
  pub dispatcher : ℕ
  pub is : IsToSit names request n e.side dispatcher
  pub sat : SatAt shared_ways j.jobs c.finish e dispatcher

-- so does each that is made in a run of cores that were set up together
abbrev pub EndsSit : Type 0
EndsSit = (asked : List Job) (j : TheJoinedJobs) (cores : List OneCore) (names : List TheRegistration) (programs : List TheProgram)
    → AreSetUp asked j cores names programs → (n : ℕ) (c : OneCore) (e : EndId) (seat : TheEndAtChannel) → slice_get cores n ≡ Some c → IsMade c e seat
    → SitsAsRequested j names n c e
