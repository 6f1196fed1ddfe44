-- Cores that were set up together and ran the jobs that were joined for them: what is told of each binding is honest. Laws.
use Rattle.std.specs.Prelude.{ℕ, ◌≡◌, List, length, map, slice_get, Some, None}
use Rattle.fl_base.specs.declared.identity.EndId.{EndId}
use Rattle.fl_compile.specs.Programs.{TheProgram, program_of}
use Rattle.fl_nameserv.specs.Registrations.{TheRegistration}
use Rattle.fl_core.specs.View.{place_of}
use Rattle.fl_core.specs.declared.core_job.CoreJob.TheVariants as job
use Rattle.fl_core.specs.declared.core_job.OpenRequest.{OpenRequest}
use Rattle.fl_cores_file.specs.Jobs.{Job}
use Rattle.fl_cores_file.specs.Report.{TheReport, Honest}
use Rattle.fl_cores_jobs.specs.declared.end_work.BindingCores.{BindingCores}
use Rattle.fl_cores_jobs.specs.EndWork.{end_work_at}
use Rattle.fl_cores_jobs.specs.State.{TheJoinedJobs, AreJoined}
use Rattle.fl_cores_laws.specs.Cores.{OneCore, AllWent}
use Rattle.fl_cores_laws.specs.Ends.{HasProgress}
use Rattle.fl_cores_laws.specs.Told.{IsOf, AreTold}
use Rattle.fl_cores_laws.specs.Bindings.{HasCores, AreHonest, IsOffLinks}
use Rattle.fl_cores_laws.specs.Rules.{RulesFit}
use Rattle.fl_cores_laws.specs.Whole.{HaveOwn}
use Rattle.fl_cores_laws.specs.Asked.{IsForBinding}
use Rattle.fl_cores_laws.specs.Meeting.{AreWired}

-- ---- a binding off links. Law

-- each end has its own end's progress, new at the start
abbrev pub HaveProgress : TheJoinedJobs → List OneCore → Type 0
HaveProgress j cores = (e : EndId) (c : OneCore) → IsOf j cores e c → HasProgress (end_work_at j.end_works e) c.start e

-- what is told of a binding by queues or by a ring is honest, whatever the others are
abbrev pub OffLinkIsHonest : Type 0
OffLinkIsHonest = (asked : List Job) (j : TheJoinedJobs) (cores : List OneCore) → AreJoined (length cores) asked j → AllWent j.jobs cores → HaveProgress j cores
    → (n : ℕ) (b : BindingCores) → slice_get j.bindings n ≡ Some b → (x : IsOffLinks j cores n b) → AreHonest asked j n x.client x.server

-- ---- a binding that a job opens. Law

-- cores that were set up together, with these services and these interfaces' programs
pub record AreSetUp (asked : List Job) (j : TheJoinedJobs) (cores : List OneCore) (names : List TheRegistration) (programs : List TheProgram) : Type 0 where
  pub joined : AreJoined (length cores) asked j
  pub wired : AreWired j.jobs cores
  -- each core has its place as its number, and copies of the services and programs
  pub numbered : (n : ℕ) (c : OneCore) → slice_get cores n ≡ Some c → c.start.core.monitor.circuits.core ≡ n
  pub named : (n : ℕ) (c : OneCore) → slice_get cores n ≡ Some c → c.start.offers.names ≡ names
  pub programmed : (n : ℕ) (c : OneCore) → slice_get cores n ≡ Some c → map program_of c.start.offers.programs ≡ programs
  -- jobs lie at the ends' progress of their ends
  pub progresses : HaveProgress j cores
  pub own : HaveOwn j cores
  -- they ask for services of their bindings
  pub requests : (k : ℕ) (w : OpenRequest) (b : BindingCores) → slice_get j.jobs k ≡ Some (job.Open w) → slice_get j.bindings w.opening.binding ≡ Some b
      → IsForBinding names w b
  -- no core has an end of a binding that a job opens, and the rules that jobs set there fit the binding's interface
  pub absent : (n : ℕ) (c : OneCore) (e : EndId) (b : BindingCores) (number : ℕ) → slice_get cores n ≡ Some c → slice_get j.bindings e.binding ≡ Some b
      → b.opened ≡ Some number → place_of c.start.core e ≡ None
  pub fit : (e : EndId) (b : BindingCores) (number : ℕ) (p : TheProgram) → slice_get j.bindings e.binding ≡ Some b → b.opened ≡ Some number
      → slice_get programs b.interface ≡ Some p → RulesFit p.interface j.jobs (end_work_at j.end_works e).jobs

-- whatever its opening came to, what is told of the binding is honest
abbrev pub OpenedIsHonest : Type 0
OpenedIsHonest = (asked : List Job) (j : TheJoinedJobs) (cores : List OneCore) (names : List TheRegistration) (programs : List TheProgram)
    → AreSetUp asked j cores names programs → (n number : ℕ) (b : BindingCores) (c d : OneCore) → slice_get j.bindings n ≡ Some b → b.opened ≡ Some number
    → HasCores cores b c d → AreHonest asked j n c d

-- ---- all bindings. Law

-- where the bindings of the set-up are off links, a report that tells what the cores' ends' progress have in the end is honest
abbrev pub RunsAreHonest : Type 0
RunsAreHonest = (asked : List Job) (j : TheJoinedJobs) (cores : List OneCore) (names : List TheRegistration) (programs : List TheProgram) (r : TheReport)
    → AreSetUp asked j cores names programs
    → ((n : ℕ) (b : BindingCores) → slice_get j.bindings n ≡ Some b → b.opened ≡ None → IsOffLinks j cores n b)
    → AreTold j cores r.made r.handled → Honest asked r
