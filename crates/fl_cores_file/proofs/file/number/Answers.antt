use Rattle.std.proofs.Common.{◌≡◌, ap, map, sym, subst, ℕ, List}
use Rattle.fl_cores_file.specs.CoresFile.{numbered}
use Rattle.fl_cores_file.specs.Draft.{Draft}
use Rattle.fl_cores_file.specs.Jobs.{Job}
use Rattle.fl_cores_file.specs.Views.{job_of, draft_of}
use Rattle.fl_cores_file.proofs.Lists.{same_jobs}
use Rattle.fl_cores_file.proofs.file.number.Goals as goal

pub returns-then-are_places-clause-jobs : goal.returns-then-are_places-clause-jobs
returns-then-are_places-clause-jobs c =
    let d : Draft = draft_of c.args.draft.now in
    let ns = c.in_ok-numbers.numbers.items in
    let places : (place : ℕ) → numbered ns place ≡ place =
    subst (λ (v : List ℕ). (place : ℕ) → numbered v place ≡ place) c.deref-2.ensures.value (c.are_places.ensures.places c.if-are_places.true) in
    sym (ap (λ (js : List Job). record d { jobs = js }) (same_jobs ns (map job_of c.args.draft.now.jobs.items) places))
