-- No route for which a job of a run requests names a core twice: by the table of the client's core a circuit may go over it.
use Rattle.std.proofs.Common.{◌≡◌, refl, ap, ◌∙◌, ℕ, ◌==◌, ◌&&◌, ◌||◌, not, Bool, true, List, [], ◌∷◌, length, slice_get, Some}
use Rattle.std.specs.List.{list_any}
use Rattle.fl_base.specs.declared.identity.CoreId.{CoreId}
use Rattle.fl_monitor.specs.Routing.{is_core, all_differ}
use Rattle.fl_model.specs.Binding.{all_differ as numbers_differ}
use Rattle.fl_core.specs.declared.core_job.CoreJob.{CoreJob}
use Rattle.fl_core.specs.declared.core_job.CoreJob.TheVariants as job
use Rattle.fl_core.specs.declared.core_job.OpenRequest.{OpenRequest}
use Rattle.fl_cores_file.specs.Jobs.{Job}
use Rattle.fl_cores_file.specs.Report.{TheReport}
use Rattle.fl_world.specs.Booting.{TheConfig}
use Rattle.fl_cores_jobs.specs.Requested.{cores_on}
use Rattle.fl_cores.specs.Promised.{Reports}
use Rattle.fl_cores.proofs.Requests.{may_go}

-- no route for which a job requests names a core twice
abbrev pub RoutesDiffer : List CoreJob → Type 0
RoutesDiffer jobs = (place : ℕ) (request : OpenRequest) → slice_get jobs place ≡ Some (job.Open request) → numbers_differ (cores_on request.opening.path) ≡ true

among : (n : ℕ) (path : List CoreId) → list_any (λ (x : ℕ). x == n) (cores_on path) ≡ list_any (is_core n) path
among n [] = refl
among n (c ∷ path) = ap (λ (b : Bool). (c.0 == n) || b) (among n path)

by_number : (path : List CoreId) → numbers_differ (cores_on path) ≡ all_differ path
by_number [] = refl
by_number (c ∷ path) = ap (λ (b : Bool). not b && numbers_differ (cores_on path)) (among c.0 path) ∙ ap (λ (b : Bool). not (list_any (is_core c.0) path) && b) (by_number path)

pub routes_differ : (c : TheConfig) (asked : List Job) (limit : ℕ) (r : TheReport) (w : Reports c asked limit r) → RoutesDiffer w.ran.ran.joined.jobs
routes_differ c asked limit r w place request job_is =
    let i = w.ran.ran.are_requested place request job_is in
    let at = i.asks.begins in
    by_number request.opening.path
    ∙ (may_go at.core.monitor.circuits request.opening.path i.bound.server (length w.ran.parts.cores.items) request.link.0 at.begins).apart
