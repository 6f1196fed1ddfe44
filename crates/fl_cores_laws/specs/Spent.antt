-- Where a core gave all its numbers on a link: jobs open as many bindings, each another, whose routes go over that link. Laws.
use Rattle.std.specs.Prelude.{ℕ, ◌≡◌, ◌≢◌, ◌⊎◌, ◌<◌, List, slice_get, Some}
use Rattle.fl_base.specs.declared.identity.EndId.{EndId}
use Rattle.fl_nameserv.specs.Registrations.{TheRegistration}
use Rattle.fl_hop.specs.Table.{TheCircuits, most_openings}
use Rattle.fl_monitor.specs.declared.opening.Opening.{Opening}
use Rattle.fl_core.specs.View.{client_of}
use Rattle.fl_core.specs.declared.core_job.OpenRequest.{OpenRequest}
use Rattle.fl_core_run.specs.OpeningStatus.{refusal_at}
use Rattle.fl_cores_file.specs.Jobs.{Job}
use Rattle.fl_compile.specs.Programs.{TheProgram}
use Rattle.fl_cores_jobs.specs.declared.end_work.BindingCores.{BindingCores}
use Rattle.fl_cores_jobs.specs.State.{TheJoinedJobs}
use Rattle.fl_cores_laws.specs.Cores.{OneCore, AllAmple}
use Rattle.fl_cores_laws.specs.Asked.{IsRequested}
use Rattle.fl_cores_laws.specs.Runs.{AreSetUp}
use Rattle.fl_cores_laws.specs.Reasons.{LeadsOver, IsUsedUp}

-- a job requests that its opening begins on link l of the core at this place, which is that of its binding's client
pub record BeginsOver (j : TheJoinedJobs) (n l : ℕ) (w : OpenRequest) : Type 0 where
  pub link_is : w.link.0 ≡ l
  pub home : (b : BindingCores) → slice_get j.bindings w.opening.binding ≡ Some b → b.client ≡ n

-- a job asks for this opening, and its route goes over link l of that core, by whose table: it begins there, or leads on over it
pub record GoesOver (j : TheJoinedJobs) (n : ℕ) (t : TheCircuits) (l : ℕ) (o : Opening) : Type 0 where
  pub requested : IsRequested j.jobs o
  pub over : BeginsOver j n l requested.request ⊎ LeadsOver t o.path l

-- so it is of 1,023 openings, each of another binding
pub record AreOver (j : TheJoinedJobs) (n : ℕ) (t : TheCircuits) (l : ℕ) : Type 0 where
  pub openings : ℕ → Opening
  pub over : (i : ℕ) → i < most_openings → GoesOver j n t l (openings i)
  pub apart : (i k : ℕ) → i < most_openings → k < most_openings → (openings i).binding ≡ (openings k).binding → i ≡ k

-- where cores were set up together and ran the jobs that were joined for them, and one gave all its numbers on a link
abbrev pub SpentOnBindings : Type 0
SpentOnBindings = (asked : List Job) (j : TheJoinedJobs) (cores : List OneCore) (names : List TheRegistration) (programs : List TheProgram)
    → AreSetUp asked j cores names programs → (n : ℕ) (c : OneCore) → slice_get cores n ≡ Some c → (l : ℕ) → IsUsedUp c.finish.core.monitor.circuits l
    → AreOver j n c.start.core.monitor.circuits l

-- the opening for which a job of this end requests goes over a link of a core that gave all its numbers there: for 1,023 other bindings
pub record IsCrowdedOut (j : TheJoinedJobs) (cores : List OneCore) (e : EndId) : Type 0 where
  pub place : ℕ
  pub core : OneCore
  pub core_is : slice_get cores place ≡ Some core
  pub link : ℕ
  pub used_up : IsUsedUp core.finish.core.monitor.circuits link
  pub opening : Opening
  pub end_is : client_of opening.binding ≡ e
  pub over : GoesOver j place core.start.core.monitor.circuits link opening
  pub many : AreOver j place core.start.core.monitor.circuits link
  pub others : (i : ℕ) → i < most_openings → (many.openings i).binding ≢ opening.binding

-- so it is where 74 stands at an end's progress in the end, where no refusal stood there as the run began, and memory was never wanted for an opening
abbrev pub SpentOnOthers : Type 0
SpentOnOthers = (asked : List Job) (j : TheJoinedJobs) (cores : List OneCore) (names : List TheRegistration) (programs : List TheProgram)
    → AreSetUp asked j cores names programs → AllAmple cores → (n : ℕ) (c : OneCore) (e : EndId) → slice_get cores n ≡ Some c
    → refusal_at c.start e ≡ 0 → refusal_at c.finish e ≡ 74 → IsCrowdedOut j cores e
