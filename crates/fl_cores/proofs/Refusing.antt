-- Where a binding is told as refused, that stands at the end's progress of its client's end, as its core's run ends.
use Rattle.std.proofs.Common.{◌≡◌, refl, sym, ap, ◌∙◌, ℕ, ◌==◌, if◌then◌else◌, Bool, true, false, List, slice_get, Option, Some, None, arith}
use Rattle.std.proofs.lemmas.Bool.Decides.{nat_tests}
use Rattle.std.proofs.lemmas.Option.{same_Some}
use Rattle.fl_base.specs.declared.identity.EndId.{EndId}
use Rattle.fl_base.specs.Given.{given}
use Rattle.fl_ring.specs.SharedSides.{TheSide}
use Rattle.fl_core.specs.View.{client_of}
use Rattle.fl_core_run.specs.EndProgress.{TheEndProgress, progress_place}
use Rattle.fl_core_run.specs.Run.{TheRun}
use Rattle.fl_core_run.specs.OpeningStatus.{refusal_at}
use Rattle.fl_core_run_laws.specs.Made.{progress_of}
use Rattle.fl_world.specs.Booting.{TheConfig}
use Rattle.fl_cores_file.specs.Jobs.{Job}
use Rattle.fl_cores_file.specs.Report.{TheReport, refusal_of}
use Rattle.fl_cores_jobs.specs.declared.end_work.BindingCores.{BindingCores}
use Rattle.fl_cores_laws.specs.Cores.{OneCore}
use Rattle.fl_cores_laws.specs.EndedBegins.{Ran, refusal_by}
use Rattle.fl_cores.specs.Promised.{Reports}
use Rattle.fl_cores.specs.Behind.{joined_in, cores_in}
use Rattle.fl_cores.specs.Outcomes.{ReportsAreOfRuns}
use Rattle.fl_cores.specs.Runs.{AreRuns}
use Rattle.fl_cores.proofs.CoresCoreThreads.{as_many_cores}
use Rattle.fl_cores.proofs.Runs.{is_there, as_many}
use Rattle.fl_cores.proofs.Twins.{twin}

-- ---- ends' progress and reports

-- where no end's progress has a refusal none stands at an end's
none_stands : (s : TheRun TheSide) (e : EndId) → ((d : TheEndProgress) → progress_of s e ≡ Some d → d.refused ≡ 0) → refusal_at s e ≡ 0
none_stands s e none = by (progress_place s.progresses e) refl where
  by_progress : (n : ℕ) → progress_place s.progresses e ≡ Some n → (o : Option TheEndProgress) → slice_get s.progresses n ≡ o → given o 0 (λ (d : TheEndProgress). d.refused) ≡ 0
  by_progress n place None at = refl
  by_progress n place (Some d) at = none d (ap (λ (o : Option ℕ). given o None λ i. slice_get s.progresses i) place ∙ at)

  by : (o : Option ℕ) → progress_place s.progresses e ≡ o → refusal_at s e ≡ 0
  by None place = ap (λ (o : Option ℕ). given o 0 λ i. given (slice_get s.progresses i) 0 λ (d : TheEndProgress). d.refused) place
  by (Some n) place =
      ap (λ (o : Option ℕ). given o 0 λ i. given (slice_get s.progresses i) 0 λ (d : TheEndProgress). d.refused) place ∙ by_progress n place (slice_get s.progresses n) refl

-- the number that is told is the one that stands there, which isn't 0
told_by : (number fault : ℕ) (b : Bool) → (number == 0) ≡ b → (if b then None else Some number) ≡ Some fault → (number ≡ fault) × (number ≡ 0 → ⊥)
told_by number fault true is told = absurd (cc)
told_by number fault false is told = (same_Some number fault told, λ none. absurd (grind (arith, nat_tests, is, none)))

told_number : (number fault : ℕ) → refusal_by number ≡ Some fault → (number ≡ fault) × (number ≡ 0 → ⊥)
told_number number fault told = told_by number fault (number == 0) refl told

-- ---- a report

module _ (runs : ReportsAreOfRuns) (c : TheConfig) (asked : List Job) (limit : ℕ) (r : TheReport) (x : Reports c asked limit r) (cores : List OneCore)
    (are : AreRuns x.ran.ran.joined.jobs x.ran.ran.ran.core_threads x.ran.ran.ran.outcomes cores) where
  -- none stood there at first, and in the end this does
  pub record RefusedAt (n fault : ℕ) (b : BindingCores) : Type 0 where
    pub core : OneCore
    pub core_is : slice_get cores b.client ≡ Some core
    pub none : refusal_at core.start (client_of n) ≡ 0
    pub last : refusal_at core.finish (client_of n) ≡ fault
    pub some : fault ≡ 0 → ⊥

  pub refused_at : (n fault : ℕ) (b : BindingCores) → slice_get (joined_in x).bindings n ≡ Some b → refusal_of r n ≡ Some fault → RefusedAt n fault b
  refused_at n fault b bound told =
      let e = client_of n in
      let ran : Ran asked (joined_in x) limit (cores_in x) r = runs c asked limit r x in
      let many = as_many x.ran.ran.joined.jobs x.ran.ran.ran.core_threads x.ran.ran.ran.outcomes cores are in
      let all_many = as_many_cores x.ran.ran.joined.jobs limit x.ran.ran.ran.core_threads x.ran.ran.ran.outcomes x.ran.ran.ran.ran in
      let below = ran.joined.bindings.client n b bound in
      let (two, two_is) = is_there cores b.client (omega (arith, many, all_many, below)) in
      let t = twin x cores are b.client two two_is in
      let (number, some) = told_number (refusal_at t.one.finish e) fault (sym (ran.progresses.refused n b t.one bound t.one_is) ∙ told) in
      record {
        core = two;
        core_is = two_is;
        none = ap (λ (s : TheRun TheSide). refusal_at s e) t.start
            ∙ none_stands t.one.begin.run e (λ d is. ((ran.begins b.client t.one t.one_is).untouched e d is).refused);
        last = ap (λ (s : TheRun TheSide). refusal_at s e) t.finish ∙ number;
        some = λ zero. some (number ∙ zero);
      }
