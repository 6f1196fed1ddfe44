-- What an end handled at a core that finished.
use Rattle.std.proofs.Common.{◌≡◌, ◌≢◌, refl, sym, ap, ◌∙◌, subst, ℕ, zero, suc, ◌<◌, ◌==◌, ◌&&◌, ◌⊎◌, inl, inr, List, length, slice_get, Option, Some, Bool, true, false, arith}
use Rattle.std.proofs.lemmas.Bool.Decides.{nat_tests}
use Rattle.fl_base.specs.declared.identity.EndId.{EndId}
use Rattle.fl_base.specs.Given.{given}
use Rattle.fl_ring.specs.SharedSides.{TheSide}
use Rattle.fl_hop.proofs.Lists.{within}
use Rattle.fl_core.specs.declared.core_job.CoreJob.{CoreJob}
use Rattle.fl_core_run.specs.declared.plan.TurnPlan.{TurnPlan}
use Rattle.fl_core_run.specs.declared.run.RunEnd.{RunEnd}
use Rattle.fl_core_run.specs.declared.run.RunEnd.TheVariants.{Finished, Unfinished, Told}
use Rattle.fl_core_run.specs.declared.opening_status.OpeningStatus.{OpeningStatus}
use Rattle.fl_core_run.specs.declared.opening_status.OpeningStatus.TheVariants.{Silent, Tells, Hears, Refused}
use Rattle.fl_core_run.specs.Run.{TheRun}
use Rattle.fl_core_run.specs.OpeningStatus.{TheRunSeat, refusal_at}
use Rattle.fl_core_run.specs.Finished.{is_progress_clear, is_at_rest, is_done_at, is_done, all_done, is_finished}
use Rattle.fl_core_run.specs.Ran.{task, RunMoment, EndsAs}
use Rattle.fl_core_run_laws.specs.Logs.{handled_of, TurnsAreLogged, ProgressTellHandled}
use Rattle.fl_core_run_laws.specs.Logs.{CountedAreTurns}
use Rattle.fl_cores_jobs.specs.EndWork.{end_work_at}
use Rattle.fl_cores_jobs.specs.State.{TheJoinedJobs}
use Rattle.fl_cores_jobs.specs.Joined.{core_at}
use Rattle.fl_cores_laws.specs.EndedCores.{shared_ways, OneCore, Went}
use Rattle.fl_cores_laws.specs.EndedBegins.{word_of, HasProgress, Begins}
use Rattle.fl_cores_laws.specs.EndedHeard.{Among}
use Rattle.fl_cores_laws.specs.Complete.{Knows}
use Rattle.fl_cores_laws.proofs.Going.{Some_, goes_on}
use Rattle.fl_cores_laws.proofs.Learning.{Tracks, same_first, at_point}
use Rattle.fl_cores_laws.proofs.EndedProgress.{StillThere, still, as_many_as_due}

-- ---- what is done at each end is done at one of them

both_parts : (a b : Bool) → (a && b) ≡ true → (a ≡ true) × (b ≡ true)
both_parts true b is = (refl, is)
both_parts false b is = absurd (cc)

choose : {S : Type 0} (s : TheRun S) (ends : List EndId) (words : List OpeningStatus) (n k : ℕ) (b : Bool) → (k == n) ≡ b → k < suc n
    → (k < n → is_done s ends words k ≡ true) → is_done s ends words n ≡ true → is_done s ends words k ≡ true
choose s ends words n k true same below rest last =
    let eq : k ≡ n = grind (arith, nat_tests, same) in
    subst (λ (i : ℕ). is_done s ends words i ≡ true) (sym eq) last
choose s ends words n k false same below rest last =
    let ne : k ≢ n = λ eq. absurd (grind (arith, nat_tests, same, eq)) in
    rest (omega (arith, ne, below))

one_by : {S : Type 0} (s : TheRun S) (ends : List EndId) (words : List OpeningStatus) (n k : ℕ) → k < n → all_done s ends words n ≡ true → is_done s ends words k ≡ true
one_by s ends words zero k below all = absurd (omega (arith, below))
one_by s ends words (suc n) k below all =
    let parts = both_parts (all_done s ends words n) (is_done s ends words n) all in
    choose s ends words n k (k == n) refl below (λ less. one_by s ends words n k less parts.0) parts.1

-- ---- at the point

-- a word that knows of a refusal, or that doesn't
knows_by : (w : OpeningStatus) → ((number : ℕ) × (w ≡ Refused number)) ⊎ ((s : TheRun TheSide) (e : EndId) → is_done_at s e w ≡ true → is_progress_clear s e ≡ true)
knows_by Silent = inr (λ s e is. (both_parts (is_progress_clear s e) (is_at_rest s.core e) is).0)
knows_by (Tells job) = inr (λ s e is. (both_parts (is_progress_clear s e) (is_at_rest s.core e) is).0)
knows_by (Hears job) = inr (λ s e is. (both_parts (is_progress_clear s e) (is_at_rest s.core e) is).0)
knows_by (Refused number) = inl (number, refl)

finished_there : (plan : TurnPlan) (jobs : List CoreJob) (limit turns : ℕ) (e : RunEnd) (a : RunMoment TheSide) (b : TheRunSeat) → e ≡ Finished
    → EndsAs (task plan jobs limit) turns e a b → is_finished a.run plan.ends.items b.words ≡ true
finished_there plan jobs limit turns Finished a b is h = h.1
finished_there plan jobs limit turns Unfinished a b is h = absurd (cc)
finished_there plan jobs limit turns Told a b is h = absurd (cc)

module _ (logged : TurnsAreLogged shared_ways) (tell : ProgressTellHandled shared_ways) (turns : CountedAreTurns shared_ways)
    (j : TheJoinedJobs) (limit n : ℕ) (c : OneCore) (begins : Begins j n c) (w : Went j.jobs limit c) where
  -- words, as they came of the first ones
  pub tracks : (F : EndId → Type 0) → ((m : TheRun TheSide) (e : EndId) → Some_ c.plan j.jobs c.begin.run m → Some_ c.plan j.jobs m c.finish → refusal_at m e ≢ 0 → F e)
      → Tracks F c.plan.ends.items (word_of j.bindings) c.point.run_seat
  tracks F says = at_point F (word_of j.bindings) j.jobs limit c w says (record {
    words = λ k e at. (word_of j.bindings e, begins.words k e at, same_first F c.begin.run_seat.seat.knows.heard e (word_of j.bindings e));
    stored = λ job number there. absurd (subst (λ xs. Among job number xs) begins.silent there);
  })

  pub to_point : Some_ c.plan j.jobs c.begin.run c.point.run
  to_point = (c.part.turns, turns (task c.plan j.jobs limit) c.begin c.point c.part w.counted)

  pub to_finish : Some_ c.plan j.jobs c.point.run c.finish
  to_finish = goes_on c.plan j.jobs limit c.part.end c.point.run c.finish w.goes_on

  module _ (e : EndId) (own : core_at j.bindings e ≡ Some n) where
    abbrev progress : HasProgress j c e
    progress = begins.progresses e own

    pub at_point_still : StillThere logged tell c.plan j.jobs e c.begin.run c.point.run progress.progress progress.progress_is to_point
    at_point_still = still logged tell c.plan j.jobs e c.begin.run c.point.run progress.progress progress.progress_is to_point

    -- where it had finished, it knew of a refusal there, or all that is due was handled
    pub due_or_refused : c.part.end ≡ Finished → Knows c e ⊎ (length (handled_of c.point.run e) ≡ (end_work_at j.end_works e).due)
    due_or_refused finished =
        let (k, at) = begins.ends e own in
        let (word, word_is, became) = (tracks (λ f. Unit {0}) (λ m f a b some. tt)).words k e at in
        let all : is_finished c.point.run c.plan.ends.items c.point.run_seat.words ≡ true =
        subst (λ (r : TheRun TheSide). is_finished r c.plan.ends.items c.point.run_seat.words ≡ true) (sym w.counted.rests)
        (finished_there c.plan j.jobs limit c.part.turns c.part.end w.counted.after c.point.run_seat finished w.counted.ends) in
        let one : is_done c.point.run c.plan.ends.items c.point.run_seat.words k ≡ true =
        one_by c.point.run c.plan.ends.items c.point.run_seat.words (length c.plan.ends.items) k (within c.plan.ends.items k e at) all in
        let done : is_done_at c.point.run e word ≡ true =
        sym (ap (λ (o : Option EndId). given o true (λ (name : EndId). given (slice_get c.point.run_seat.words k) true (λ (x : OpeningStatus). is_done_at c.point.run name x))) at
        ∙ ap (λ (o : Option OpeningStatus). given o true (λ (x : OpeningStatus). is_done_at c.point.run e x)) word_is) ∙ one in
        elim (knows_by word) [
          | inl refused ↦ inl (record { place = k; end_is = at; number = refused.0; word_is = word_is ∙ ap Some refused.1 })
          | inr clear ↦
              inr (as_many_as_due c.point.run e at_point_still.after at_point_still.after_is (clear c.point.run e done) ∙ at_point_still.due ∙ progress.due)
        ]
