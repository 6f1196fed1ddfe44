-- A report that is complete has all that was handed in, and names the refusals that were known.
use Rattle.std.proofs.Common.{◌≡◌, ◌≢◌, refl, sym, ap, ◌∙◌, ℕ, zero, suc, ◌<◌, ◌≤◌, ◌==◌, ◌&&◌, ◌⊎◌, inl, inr, if◌then◌else◌, List, [], ◌∷◌, ◌++◌, length, slice_get, Option, Some, None, Bool, true, false, arith}
use Rattle.std.specs.List.{flat_map}
use Rattle.std.proofs.lemmas.Bool.Decides.{nat_tests}
use Rattle.std.proofs.lemmas.List.{length-map}
use Rattle.std.proofs.lemmas.List.Concat.{flat_map-cons}
use Rattle.fl_base.specs.declared.identity.EndId.{EndId}
use Rattle.fl_base.specs.declared.identity.Side.{Side}
use Rattle.fl_base.specs.declared.identity.Side.TheVariants.{Client, Server}
use Rattle.fl_base.specs.Ends.{peer}
use Rattle.fl_base.specs.Given.{given}
use Rattle.fl_value_data.specs.Value.{TheCall, call_of}
use Rattle.fl_hop.proofs.Lists.{at_within, within}
use Rattle.fl_model.specs.Runs.{same_side, same_end}
use Rattle.fl_core.specs.View.{slot_of}
use Rattle.fl_core.specs.declared.core_job.CoreJob.{CoreJob}
use Rattle.fl_core.specs.declared.core_job.CoreJob.TheVariants as core
use Rattle.fl_core_run.specs.declared.run.RunEnd.TheVariants.{Finished}
use Rattle.fl_core_run_laws.specs.Logs.{handled_of, TurnsAreLogged, ProgressTellHandled, CountedAreTurns}
use Rattle.fl_cores_file.specs.Jobs.{Job, own_calls, has_rules, reply_to, handed_in}
use Rattle.fl_cores_file.specs.Report.{TheReport, complete, at_end, refusal_of, Honest, AllHandled}
use Rattle.fl_cores_jobs.specs.declared.end_work.BindingCores.{BindingCores}
use Rattle.fl_cores_jobs.specs.EndWork.{TheEndWork, no_end_work, end_work_at, is_ruled, end_of, calls_at, core_calls}
use Rattle.fl_cores_jobs.specs.Joined.{core_of, AreBindings, core_at}
use Rattle.fl_cores_jobs.specs.State.{TheJoinedJobs, AreJoined}
use Rattle.fl_cores_laws.specs.EndedCores.{shared_ways, OneCore}
use Rattle.fl_cores_laws.specs.EndedBegins.{Ran}
use Rattle.fl_cores_laws.specs.Complete.{Knows, AreNamed, RefusalsAreNamed, AsManyHandled, CompleteHasAsMany, IsFirst, CompleteHasThese, CompleteHasAll}
use Rattle.fl_cores_laws.proofs.Turns.{all_finished}
use Rattle.fl_cores_laws.proofs.EndedProgress.{still, prefix_then, no_longer, whole}
use Rattle.fl_cores_laws.proofs.Ended.{to_finish, at_point_still, due_or_refused}

-- ---- nothing is handed in for an end of no binding

other_binding : (a b : ℕ) (s t : Bool) → a ≢ b → (a == b) ≡ s → (s && t) ≡ false
other_binding a b true t ne is = absurd (let eq : a ≡ b = grind (arith, nat_tests, is) in ne eq)
other_binding a b false t ne is = refl

elsewhere : (e f : EndId) → e.binding ≢ f.binding → same_end e f ≡ false
elsewhere e f ne = other_binding e.binding f.binding (e.binding == f.binding) (same_side e.side f.side) ne refl

no_calls_at : (e : EndId) (job : CoreJob) → e.binding ≢ (end_of job).binding → calls_at e job ≡ []
no_calls_at e (core.Open request) ne = refl
no_calls_at e (core.Reply f msg reply) ne = refl
no_calls_at e (core.Call f call) ne = ap (λ (b : Bool). if b then call_of call ∷ [] else []) (elsewhere e f ne)

no_calls : (e : EndId) (jobs : List CoreJob) → ((n : ℕ) (job : CoreJob) → slice_get jobs n ≡ Some job → e.binding ≢ (end_of job).binding) → core_calls jobs e ≡ []
no_calls e [] away = refl
no_calls e (job ∷ jobs) away =
    flat_map-cons (calls_at e) job jobs
    ∙ ap (λ (t : List TheCall). t ++ core_calls jobs e) (no_calls_at e job (away 0 job refl))
    ∙ no_calls e jobs (λ n x at. away (suc n) x at)

pub past : {X : Type 0} (xs : List X) (k : ℕ) → slice_get xs k ≡ None → length xs ≤ k
past [] k is = omega arith
past (x ∷ xs) zero is = absurd (cc)
past (x ∷ xs) (suc k) is = let l = past xs k is in omega (arith, l)

none_past : {X : Type 0} (xs : List X) (k : ℕ) → length xs ≤ k → slice_get xs k ≡ None
none_past [] k l = refl
none_past (x ∷ xs) zero l = absurd (omega (arith, l))
none_past (x ∷ xs) (suc k) l = none_past xs k (omega (arith, l))

pub nothing_handed : (cores : ℕ) (asked : List Job) (j : TheJoinedJobs) → AreJoined cores asked j → (e : EndId) → slice_get j.bindings e.binding ≡ None → handed_in asked e ≡ []
nothing_handed cores asked j joined e none =
    let far = past j.bindings e.binding none in
    let count = joined.end_works in
    let end_work : end_work_at j.end_works e ≡ no_end_work =
    ap (λ (o : Option TheEndWork). given o no_end_work (λ (d : TheEndWork). d)) (none_past j.end_works (slot_of e) (omega (arith, far, count))) in
    let unruled : has_rules asked e ≡ false = sym (joined.each e).asked.ruled ∙ ap is_ruled end_work in
    let away : (n : ℕ) (job : CoreJob) → slice_get j.jobs n ≡ Some job → e.binding ≢ (end_of job).binding =
    λ n job at same. absurd (let there = joined.there n job at in omega (arith, far, there, same)) in
    ap (λ (b : Bool). if b then flat_map (reply_to asked e) (own_calls asked (peer e)) else own_calls asked e) unruled
    ∙ sym (joined.each e).calls ∙ no_calls e j.jobs away

-- ---- the core of an end

pub core_below : (cores : ℕ) (bindings : List BindingCores) (owners : List ℕ) → AreBindings cores bindings owners → (s : Side) (n : ℕ) (b : BindingCores) → slice_get bindings n ≡ Some b → core_of s b < cores
core_below cores bindings owners are Client n b at = are.client n b at
core_below cores bindings owners are Server n b at = are.server n b at

pub bound_by : (bindings : List BindingCores) (e : EndId) (n : ℕ) (o : Option BindingCores) → slice_get bindings e.binding ≡ o → given o None (λ (b : BindingCores). Some (core_of e.side b)) ≡ Some n
    → e.binding < length bindings
bound_by bindings e n None at is = absurd (cc)
bound_by bindings e n (Some b) at is = within bindings e.binding b at

-- ---- all was handled

module _ (logged : TurnsAreLogged shared_ways) (tell : ProgressTellHandled shared_ways) (turns : CountedAreTurns shared_ways)
    (asked : List Job) (j : TheJoinedJobs) (limit : ℕ) (cores : List OneCore) (r : TheReport) (ran : Ran asked j limit cores r) where
  module _ (n : ℕ) (c : OneCore) (at : slice_get cores n ≡ Some c) (e : EndId) (own : core_at j.bindings e ≡ Some n) where
    pub told_count : length (at_end r.handled e) ≡ length (handled_of c.finish e)
    told_count = ap length (ran.progresses.handled e n c own at) ∙ length-map (handled_of c.finish e) call_of

    -- nothing that was handled is lost
    pub grown : length (handled_of c.point.run e) ≤ length (handled_of c.finish e)
    grown =
        let w = ran.went n c at in
        let p = at_point_still logged tell turns j limit n c (ran.begins n c at) w e own in
        no_longer (handled_of c.point.run e) (handled_of c.finish e)
        (still logged tell c.plan j.jobs e c.point.run c.finish p.after p.after_is (to_finish logged tell turns j limit n c (ran.begins n c at) w)).handled

    -- at a core that finished all was handled, or a refusal was known there
    pub all_or_refused : c.part.end ≡ Finished → Knows c e ⊎ (length (handled_of c.point.run e) ≡ length (handed_in asked (peer e)))
    all_or_refused finished = elim (due_or_refused logged tell turns j limit n c (ran.begins n c at) (ran.went n c at) e own finished) [
      | inl knows ↦ inl knows
      | inr count ↦ inr (count ∙ ran.due.due e (bound_by j.bindings e n (slice_get j.bindings e.binding) refl own))
    ]

  module _ (named : AreNamed cores r) (done : r.ending ≡ complete) (e : EndId) (unnamed : refusal_of r e.binding ≡ None) where
    many_by : (o : Option BindingCores) → slice_get j.bindings e.binding ≡ o → AsManyHandled asked r e
    many_by None is =
        let none = ap length (nothing_handed (length cores) asked j ran.joined (peer e) is) in
        omega (arith, none)
    many_by (Some b) is =
        let n : ℕ = core_of e.side b in
        let (c, at) = at_within cores n (core_below (length cores) j.bindings j.owners ran.joined.bindings e.side e.binding b is) in
        let own : core_at j.bindings e ≡ Some n = ap (λ (o : Option BindingCores). given o None (λ (x : BindingCores). Some (core_of e.side x))) is in
        elim (all_or_refused n c at e own (all_finished cores r ran.turns done n c at)) [
          | inl knows ↦ absurd (named n c e at knows unnamed)
          | inr count ↦
              (let one = told_count n c at e own in
              let more = grown n c at e own in
              omega (arith, count, one, more))
        ]

    pub as_many_handled : AsManyHandled asked r e
    as_many_handled = many_by (slice_get j.bindings e.binding) refl

    pub these_handled : IsFirst asked r e → at_end r.handled e ≡ handed_in asked (peer e)
    these_handled first = whole (at_end r.handled e) (handed_in asked (peer e)) first as_many_handled

  -- in an honest report each is the first of what is handed in
  pub first_of : Honest asked r → (e : EndId) → IsFirst asked r e
  first_of honest e = prefix_then (at_end r.handled e) (at_end r.made (peer e)) (handed_in asked (peer e)) (honest.handled e) (honest.made (peer e))

  pub all_handled : AreNamed cores r → Honest asked r → r.ending ≡ complete → AllHandled asked r
  all_handled named honest done e unnamed = these_handled named done e unnamed (first_of honest e)

pub complete_as_many : TurnsAreLogged shared_ways → ProgressTellHandled shared_ways → CountedAreTurns shared_ways → RefusalsAreNamed → CompleteHasAsMany
complete_as_many logged tell turns named asked j limit cores r ran done e unnamed =
    as_many_handled logged tell turns asked j limit cores r ran (named asked j limit cores r ran) done e unnamed

pub complete_these : TurnsAreLogged shared_ways → ProgressTellHandled shared_ways → CountedAreTurns shared_ways → RefusalsAreNamed → CompleteHasThese
complete_these logged tell turns named asked j limit cores r ran done e first unnamed =
    these_handled logged tell turns asked j limit cores r ran (named asked j limit cores r ran) done e unnamed first

pub complete_all : TurnsAreLogged shared_ways → ProgressTellHandled shared_ways → CountedAreTurns shared_ways → RefusalsAreNamed → CompleteHasAll
complete_all logged tell turns named asked j limit cores r ran honest done =
    all_handled logged tell turns asked j limit cores r ran (named asked j limit cores r ran) honest done
