-- An end that is made in a run sits at the dispatcher that its job asks for, or at that of the service.
use Rattle.std.proofs.Common.{◌≡◌, refl, sym, ap, ◌∙◌, subst, ℕ, zero, suc, ◌<◌, List, [], ◌∷◌, length, slice_get, Some, arith}
use Rattle.fl_base.specs.declared.identity.EndId.{EndId}
use Rattle.fl_base.specs.declared.identity.Side.{Side}
use Rattle.fl_base.specs.declared.identity.Side.TheVariants.{Client, Server}
use Rattle.fl_compile.specs.Programs.{TheProgram}
use Rattle.fl_core.specs.BoardView.{TheEndAtChannel}
use Rattle.fl_nameserv.specs.Registrations.{TheRegistration, by_iref}
use Rattle.fl_core.specs.View.{client_of, server_of}
use Rattle.fl_core.specs.declared.core_job.CoreJob.TheVariants as job
use Rattle.fl_core.specs.declared.core_job.OpenRequest.{OpenRequest}
use Rattle.fl_cores_file.specs.Jobs.{Job}
use Rattle.fl_cores_jobs.specs.declared.end_work.BindingCores.{BindingCores}
use Rattle.fl_cores_jobs.specs.State.{TheJoinedJobs}
use Rattle.fl_cores_laws.specs.Asked.{ServersAreRequested, ClientsAreRequested, EndsAreAtHome, IsMade}
use Rattle.fl_cores_laws.specs.Cores.{OneCore}
use Rattle.fl_cores_laws.specs.Runs.{AreSetUp}
use Rattle.fl_cores_laws.specs.Sitting.{SitsAsRequested, EndsSit}
use Rattle.fl_cores_laws.proofs.Runs.{staffed}

bound_there : (bs : List BindingCores) (n : ℕ) → n < length bs → (b : BindingCores) × (slice_get bs n ≡ Some b)
bound_there [] n below = absurd (omega (arith, below))
bound_there (b ∷ bs) zero below = (b, refl)
bound_there (b ∷ bs) (suc n) below = bound_there bs n (omega (arith, below))

module _ (servers : ServersAreRequested) (clients : ClientsAreRequested) (home : EndsAreAtHome) (asked : List Job) (j : TheJoinedJobs) (cores : List OneCore)
    (names : List TheRegistration) (programs : List TheProgram) (s : AreSetUp asked j cores names programs) (n : ℕ) (c : OneCore) (is : slice_get cores n ≡ Some c) where
  -- the binding of a job's request
  bound_of : (place : ℕ) (w : OpenRequest) (binding : ℕ) → slice_get j.jobs place ≡ Some (job.Open w) → w.opening.binding ≡ binding
      → (b : BindingCores) × (slice_get j.bindings binding ≡ Some b)
  bound_of place w binding job_is binding_is =
      let below = s.joined.there place (job.Open w) job_is in
      bound_there j.bindings binding (subst (λ (m : ℕ). m < length j.bindings) binding_is below)

  server_sits : (binding : ℕ) (seat : TheEndAtChannel) → IsMade c (server_of binding) seat → SitsAsRequested j names n c (server_of binding)
  server_sits binding seat m =
      let all = staffed asked j cores names programs s in
      let x = servers j.jobs cores all.beside n c is binding m.place seat m.absent m.place_is m.seat_is in
      let (b, bound) = bound_of x.place x.request binding x.job_is x.binding_is in
      record {
        bound = b;
        bound_is = bound;
        core_is = (home asked j cores names programs s.joined all (server_of binding) b n c seat bound is m).core_is;
        place = x.place;
        request = x.request;
        job_is = x.job_is;
        binding_is = x.binding_is;
        dispatcher = x.registration.service.dispatcher;
        is = record {
          registration = x.registration;
          service = ap (by_iref x.request.opening.service.0) (sym (s.named n c is)) ∙ x.service;
          core_is = x.core_is ∙ s.numbered n c is;
          dispatcher = refl;
        };
        sat = x.sat;
      }

  client_sits : (binding : ℕ) (seat : TheEndAtChannel) → IsMade c (client_of binding) seat → SitsAsRequested j names n c (client_of binding)
  client_sits binding seat m =
      let all = staffed asked j cores names programs s in
      let (d, sat, x) = clients j.jobs c (all.beside.leading n c is) (all.beside.unused n c is) binding m.place seat m.absent m.place_is m.seat_is in
      let binding_is : x.request.opening.binding ≡ binding = sym (ap (λ (e : EndId). e.binding) x.name_is) in
      let (b, bound) = bound_of x.place x.request binding x.job_is binding_is in
      record {
        bound = b;
        bound_is = bound;
        core_is = (home asked j cores names programs s.joined all (client_of binding) b n c seat bound is m).core_is;
        place = x.place;
        request = x.request;
        job_is = x.job_is;
        binding_is = binding_is;
        dispatcher = d;
        is = x.dispatcher;
        sat = sat;
      }

  end_sits : (side : Side) (binding : ℕ) (seat : TheEndAtChannel) → IsMade c (record { binding = binding; side = side }) seat
      → SitsAsRequested j names n c (record { binding = binding; side = side })
  end_sits Client binding seat m = client_sits binding seat m
  end_sits Server binding seat m = server_sits binding seat m

pub ends_sit : ServersAreRequested → ClientsAreRequested → EndsAreAtHome → EndsSit
ends_sit servers clients home asked j cores names programs s n c e seat is m =
    end_sits servers clients home asked j cores names programs s n c is e.side e.binding seat m
