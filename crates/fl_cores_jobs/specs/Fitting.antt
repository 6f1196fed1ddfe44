-- That jobs fit what was set up: which services circuits are opened to, and what messages rules are between.
use Rattle.std.specs.Prelude.{ℕ, ◌≡◌, ◌≤◌, List, length, slice_get, Some}
use Rattle.fl_base.specs.declared.identity.EndId.{EndId}
use Rattle.fl_interface.specs.Interface.{TheInterface}
use Rattle.fl_compile.specs.declared.program.Program.{Program}
use Rattle.fl_compile.specs.Programs.{program_of}
use Rattle.fl_endpoint.specs.Events.{IsMessage, SameTypes}
use Rattle.fl_nameserv.specs.Registrations.{TheRegistration, by_iref}
use Rattle.fl_core.specs.declared.core_job.CoreJob.{CoreJob}
use Rattle.fl_core.specs.declared.core_job.CoreJob.TheVariants as job
use Rattle.fl_core.specs.declared.core_job.OpenRequest.{OpenRequest}
use Rattle.fl_cores_jobs.specs.declared.end_work.BindingCores.{BindingCores}
use Rattle.fl_cores_jobs.specs.State.{TheJoinedJobs}

-- ---- a service

-- the service of this reference is offered at this core, under this interface
pub record IsOffered (names : List TheRegistration) (iref interface core : ℕ) : Type 0 where
  pub registration : TheRegistration
  pub registered : by_iref iref names ≡ Some registration
  pub core_is : registration.service.core.0 ≡ core
  pub interface_is : registration.service.interface ≡ interface

-- a circuit is opened to a service at its binding's server's core, under its binding's interface
pub record OpensTo (names : List TheRegistration) (bindings : List BindingCores) (w : OpenRequest) : Type 0 where
  pub bound : BindingCores
  pub bound_is : slice_get bindings w.opening.binding ≡ Some bound
  pub interface_is : w.interface ≡ bound.interface
  pub offered : IsOffered names w.opening.service.0 bound.interface bound.server

-- ---- a rule

-- both messages are in the interface, and have the same argument types
pub record AreAlike (i : TheInterface) (msg answer : ℕ) : Type 0 where
  pub message : IsMessage i msg
  pub reply : IsMessage i answer
  pub same : SameTypes i msg answer

-- so it is of a rule at an end, in the interface of its binding
pub record RuleFits (programs : List Program) (bindings : List BindingCores) (e : EndId) (msg answer : ℕ) : Type 0 where
  pub bound : BindingCores
  pub bound_is : slice_get bindings e.binding ≡ Some bound
  pub program : Program
  pub program_is : slice_get programs bound.interface ≡ Some program
  pub alike : AreAlike (program_of program).interface msg answer

-- ---- jobs

abbrev pub JobFits : List TheRegistration → List Program → List BindingCores → CoreJob → Type 0
JobFits names programs bindings (job.Open w) = OpensTo names bindings w
JobFits names programs bindings (job.Reply e msg reply) = RuleFits programs bindings e msg.0 reply.0
JobFits names programs bindings (job.Call e call) = Unit {0}

-- each of these
abbrev pub JobsFit : List TheRegistration → List Program → TheJoinedJobs → Type 0
JobsFit names programs j = (n : ℕ) (job : CoreJob) → slice_get j.jobs n ≡ Some job → JobFits names programs j.bindings job

-- each that came behind the first ones
abbrev pub NewFit : List TheRegistration → List Program → TheJoinedJobs → TheJoinedJobs → Type 0
NewFit names programs j j2 = (n : ℕ) (job : CoreJob) → length j.jobs ≤ n → slice_get j2.jobs n ≡ Some job → JobFits names programs j2.bindings job
