-- The job that opens a binding, and what is asked for there.
use Rattle.std.proofs.Common.{◌≡◌, sym, ap, ◌∙◌, ℕ, ◌+◌, List, length, slice_get, Some}
use Rattle.std.proofs.lemmas.Option.{same_Some}
use Rattle.fl_base.specs.declared.identity.EndId.{EndId}
use Rattle.fl_core.specs.View.{client_of}
use Rattle.fl_core.specs.declared.core_job.CoreJob.TheVariants as job
use Rattle.fl_core.specs.declared.core_job.OpenRequest.{OpenRequest}
use Rattle.fl_world_refines.specs.ShowsState.{Shows}
use Rattle.fl_world.specs.Booting.{TheConfig}
use Rattle.fl_cores_file.specs.Jobs.{Job}
use Rattle.fl_cores_file.specs.Report.{TheReport}
use Rattle.fl_cores_jobs.specs.declared.end_work.BindingCores.{BindingCores}
use Rattle.fl_cores_jobs.specs.Requested.{IsRequested}
use Rattle.fl_world_refines.specs.CoreLaws.{NamesAreShown}
use Rattle.fl_world_refines.specs.Cores.{NamesShow}
use Rattle.fl_cores.specs.Promised.{Reports}
use Rattle.fl_cores.specs.Behind.{joined_in}
use Rattle.fl_cores.specs.Wanted.{behind, IsAsked}
use Rattle.fl_cores.proofs.Requests.{IsService, its_service}

module _ {c : TheConfig} {asked : List Job} {limit : ℕ} {r : TheReport} (x : Reports c asked limit r) where
  pub shown : Shows x.ran.made.world (behind c)
  shown = x.ran.made.stands.1.shown

  pub many : length x.ran.parts.bindings.items ≡ length (behind c).bindings
  many = ap length x.ran.made.parts.bindings ∙ shown.showing.bindings.count

  -- a core's job that opens binding n, and what is asked for there
  pub record Opener (n : ℕ) (b : BindingCores) (w : OpenRequest) : Type 0 where
    pub is : IsRequested x.ran.parts.names x.ran.parts.cores.items (length x.ran.parts.bindings.items) asked (joined_in x).bindings w
    pub binding : w.opening.binding ≡ n
    pub bound : is.bound ≡ b
    pub client : is.request.client.core ≡ b.client

  pub opener : (n : ℕ) (b : BindingCores) → slice_get (joined_in x).bindings n ≡ Some b → (place : ℕ) (w : OpenRequest) → slice_get (joined_in x).jobs place ≡ Some (job.Open w)
      → client_of w.opening.binding ≡ client_of n → Opener n b w
  opener n b bound place w job_is end_is =
      let i = x.ran.ran.are_requested place w job_is in
      let binding : w.opening.binding ≡ n = ap (λ (e : EndId). e.binding) end_is in
      let same : i.bound ≡ b = same_Some i.bound b (sym i.bound_is ∙ ap (slice_get (joined_in x).bindings) binding ∙ bound) in
      record { is = i; binding = binding; bound = same; client = sym i.client ∙ ap (λ (y : BindingCores). y.client) same }

  abbrev pub asked_at : (n : ℕ) (b : BindingCores) (w : OpenRequest) → Opener n b w → IsAsked c asked n
  asked_at n b w o = record {
    place = o.is.place;
    number = sym o.binding ∙ o.is.number ∙ ap (λ (k : ℕ). k + o.is.place) many;
    request = o.is.request;
    request_is = o.is.request_is;
  }

  -- the service that it names, as the machine has it
  pub service_at : NamesAreShown → (n : ℕ) (b : BindingCores) (w : OpenRequest) → (o : Opener n b w)
      → IsService (behind c).services o.is.request.service o.is.asks.service.registration
  service_at law n b w o =
      let shows : NamesShow (behind c).services x.ran.parts.names = x.ran.made.parts.names ∙ shown.showing.names in
      its_service law (behind c).services x.ran.parts.names shows o.is.request.service o.is.asks.service.registration o.is.asks.service.named
