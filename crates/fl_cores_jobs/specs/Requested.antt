-- Circuits as they are asked for: what the jobs say that open them, as cores do them.
use Rattle.std.specs.Prelude.{ℕ, ◌≡◌, ◌+◌, ◌++◌, List, [], ◌∷◌, map, length, slice_get, Some}
use Rattle.std.specs.List.{flat_map}
use Rattle.fl_base.specs.declared.identity.CoreId.{CoreId}
use Rattle.fl_hop.specs.Table.{TheCircuits}
use Rattle.fl_monitor.specs.Monitors.{first_link}
use Rattle.fl_nameserv.specs.Registrations.{TheRegistration, by_name, by_iref}
use Rattle.fl_core.specs.View.{TheCore}
use Rattle.fl_core.specs.declared.core_job.CoreJob.TheVariants as core
use Rattle.fl_core.specs.declared.core_job.OpenRequest.{OpenRequest}
use Rattle.fl_cores_file.specs.Jobs.{TheCircuitRequest, Job, opens}
use Rattle.fl_cores_jobs.specs.declared.end_work.BindingCores.{BindingCores}
use Rattle.fl_cores_jobs.specs.State.{TheJoinedJobs}
use Rattle.fl_cores_jobs.specs.Whole.{request_in}

-- ---- a circuit

-- the cores of a route, by their numbers
abbrev pub cores_on : List CoreId → List ℕ
cores_on path = map (λ (c : CoreId). c.0) path

-- the service of this name has this reference
pub record IsNamed (names : List TheRegistration) (name : List ℕ) (iref : ℕ) : Type 0 where
  pub registration : TheRegistration
  pub named : by_name name names ≡ Some registration
  pub registered : by_iref iref names ≡ Some registration

-- by this table a circuit may be asked for over the route, which ends at the server's core of so many; and this is the link on which it begins
abbrev pub BeginsOn : TheCircuits → List CoreId → ℕ → ℕ → ℕ → Type 0
BeginsOn t path server cores link = first_link t path server cores ≡ Some link

-- so it is by the table of the client's core, of these cores
pub record BeginsAt (cores : List TheCore) (client : ℕ) (path : List CoreId) (server link : ℕ) : Type 0 where
  pub core : TheCore
  pub core_is : slice_get cores client ≡ Some core
  pub begins : BeginsOn core.monitor.circuits path server (length cores) link

-- a core's job asks for what a job asks for: for its dispatcher, under its interface, to its service, over its route
pub record IsRequestOf (names : List TheRegistration) (cores : List TheCore) (w : TheCircuitRequest) (server : ℕ) (x : OpenRequest) : Type 0 where
  pub dispatcher : x.dispatcher ≡ w.client.place
  pub interface : x.interface ≡ w.interface
  pub service : IsNamed names w.service x.opening.service.0
  pub route : cores_on x.opening.path ≡ w.route
  pub begins : BeginsAt cores w.client.core x.opening.path server x.link.0

-- ---- one job more

-- the next binding, and the core's job that opens it
pub record AddsOpening (names : List TheRegistration) (cores : List TheCore) (w : TheCircuitRequest) (j j2 : TheJoinedJobs) : Type 0 where
  pub bound : BindingCores
  pub request : OpenRequest
  pub bindings : j2.bindings ≡ j.bindings ++ bound ∷ []
  pub jobs : j2.jobs ≡ j.jobs ++ core.Open request ∷ []
  pub binding : request.opening.binding ≡ length j.bindings
  pub client : bound.client ≡ w.client.core
  pub asks : IsRequestOf names cores w bound.server request

-- of a job that opens none nothing is said
abbrev pub AddsRequested : List TheRegistration → List TheCore → Job → TheJoinedJobs → TheJoinedJobs → Type 0
AddsRequested names cores (opens w) j j2 = AddsOpening names cores w j j2
AddsRequested names cores job j j2 = Unit {0}

-- ---- all jobs

-- a core's job asks for the circuit of its binding: so many are set up first, and those behind them are asked for in this order
pub record IsRequested (names : List TheRegistration) (cores : List TheCore) (first : ℕ) (asked : List Job)
    (bindings : List BindingCores) (x : OpenRequest) : Type 0 where
  pub place : ℕ
  pub number : x.opening.binding ≡ first + place
  pub request : TheCircuitRequest
  pub request_is : slice_get (flat_map request_in asked) place ≡ Some request
  pub bound : BindingCores
  pub bound_is : slice_get bindings x.opening.binding ≡ Some bound
  pub client : bound.client ≡ request.client.core
  pub asks : IsRequestOf names cores request bound.server x

-- each that opens one
abbrev pub AreRequested : List TheRegistration → List TheCore → ℕ → List Job → TheJoinedJobs → Type 0
AreRequested names cores first asked j =
    (n : ℕ) (x : OpenRequest) → slice_get j.jobs n ≡ Some (core.Open x) → IsRequested names cores first asked j.bindings x
