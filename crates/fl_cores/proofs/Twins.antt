-- The cores of a run, as the laws of endings have them, and as those of honesty do.
use Rattle.std.proofs.Common.{◌≡◌, sym, ap, ◌∙◌, ℕ, List, slice_get, Some, arith}
use Rattle.std.proofs.lemmas.Option.{same_Some, slice_get_within}
use Rattle.fl_world.specs.Booting.{TheConfig}
use Rattle.fl_cores_file.specs.Jobs.{Job}
use Rattle.fl_cores_file.specs.Report.{TheReport}
use Rattle.fl_cores_laws.specs.Cores.{OneCore}
use Rattle.fl_cores_laws.specs.EndedCores.{OneCore as EndedCore}
use Rattle.fl_cores_fork.specs.Runs.{TheFinishedCore, TheCoreThread}
use Rattle.fl_cores.specs.Promised.{Reports}
use Rattle.fl_cores.specs.Behind.{cores_in}
use Rattle.fl_cores.specs.Runs.{AreRuns}
use Rattle.fl_cores.proofs.CoresCoreThreads.{at_core, as_many_cores}
use Rattle.fl_cores.proofs.Runs.{is_there, run_at, as_many}

module _ {c : TheConfig} {asked : List Job} {limit : ℕ} {r : TheReport} (x : Reports c asked limit r) (cores : List OneCore)
    (are : AreRuns x.ran.ran.joined.jobs x.ran.ran.ran.core_threads x.ran.ran.ran.outcomes cores) where
  -- it began and ended as the other
  pub record Twin (i : ℕ) (two : OneCore) : Type 0 where
    pub one : EndedCore
    pub one_is : slice_get (cores_in x) i ≡ Some one
    pub start : two.start ≡ one.begin.run
    pub finish : two.finish ≡ one.finish

  pub twin : (i : ℕ) (two : OneCore) → slice_get cores i ≡ Some two → Twin i two
  twin i two two_is =
      let every = x.ran.ran.ran in
      let jobs = x.ran.ran.joined.jobs in
      let many = as_many jobs every.core_threads every.outcomes cores are in
      let all_many = as_many_cores jobs limit every.core_threads every.outcomes every.ran in
      let inside = slice_get_within cores i two two_is in
      let (one, one_is) = is_there (cores_in x) i (omega (arith, many, all_many, inside)) in
      let at = at_core jobs limit every.core_threads every.outcomes every.ran i one one_is in
      let run = run_at jobs every.core_threads every.outcomes cores are i two two_is in
      let core_threads : run.core_thread ≡ at.core_thread = same_Some run.core_thread at.core_thread (sym run.core_thread_is ∙ at.core_thread_is) in
      let outcomes : run.outcome ≡ at.outcome = same_Some run.outcome at.outcome (sym run.outcome_is ∙ at.outcome_is) in
      record {
        one = one;
        one_is = one_is;
        start = run.is.start ∙ ap (λ (s : TheCoreThread). s.run) core_threads ∙ ap (λ (y : EndedCore). y.begin.run) at.core_is;
        finish = run.is.finish ∙ ap (λ (o : TheFinishedCore). o.run) outcomes ∙ ap (λ (y : EndedCore). y.finish) at.core_is;
      }

  -- each has one
  pub other : (i : ℕ) (one : EndedCore) → slice_get (cores_in x) i ≡ Some one → (two : OneCore) × (slice_get cores i ≡ Some two) × (two.finish ≡ one.finish)
  other i one one_is =
      let every = x.ran.ran.ran in
      let many = as_many x.ran.ran.joined.jobs every.core_threads every.outcomes cores are in
      let all_many = as_many_cores x.ran.ran.joined.jobs limit every.core_threads every.outcomes every.ran in
      let inside = slice_get_within (cores_in x) i one one_is in
      let (two, two_is) = is_there cores i (omega (arith, many, all_many, inside)) in
      let t = twin i two two_is in
      let same : t.one ≡ one = same_Some t.one one (sym t.one_is ∙ one_is) in
      (two, two_is, t.finish ∙ ap (λ (y : EndedCore). y.finish) same)
