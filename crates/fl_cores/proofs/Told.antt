-- What a report tells of ends is what the ends' progress of their cores have in the end.
use Rattle.std.proofs.Common.{◌≡◌, refl, sym, ap, ◌∙◌, subst, ℕ, zero, suc, ◌+◌, ◌<◌, ◌≤◌, List, [], ◌++◌, map, take, length, slice_get, Option, Some, None, arith}
use Rattle.std.specs.List.{flat_map, range_with_len}
use Rattle.std.proofs.lemmas.List.FromFn.{length-map-range_with_len}
use Rattle.std.proofs.lemmas.Option.{slice_get_past, slice_get_within}
use Rattle.fl_base.specs.declared.identity.Side.{Side}
use Rattle.fl_base.specs.declared.identity.Side.TheVariants.{Client, Server}
use Rattle.fl_base.specs.declared.identity.EndId.{EndId}
use Rattle.fl_base.specs.Given.{given}
use Rattle.fl_base.specs.Numbered.{most_bindings}
use Rattle.fl_value_data.specs.Value.{TheCall, call_of}
use Rattle.fl_ring.specs.SharedSides.{TheSide}
use Rattle.fl_core.specs.View.{TheCore, slot_of}
use Rattle.fl_core.specs.declared.core_job.CoreJob.{CoreJob}
use Rattle.fl_core_run.specs.EndProgress.{TheEndProgress}
use Rattle.fl_core_run.specs.Run.{TheRun}
use Rattle.fl_core_run.specs.Accepted.{count_waiting, accepted_of}
use Rattle.fl_core.specs.Jobs.{calls_of_jobs}
use Rattle.fl_core_run_laws.specs.Logs.{in_progress, handled_of}
use Rattle.fl_core_run_laws.specs.Made.{done_at, done_of}
use Rattle.fl_cores_file.specs.Report.{BothEnds, TheReport, at_side, at_end}
use Rattle.fl_cores_jobs.specs.declared.end_work.BindingCores.{BindingCores}
use Rattle.fl_cores_jobs.specs.EndWork.{TheEndWork, end_work_at, reply_by}
use Rattle.fl_cores_jobs.specs.Joined.{core_of}
use Rattle.fl_cores_jobs.specs.State.{TheJoinedJobs}
use Rattle.fl_cores_laws.specs.Cores.{OneCore}
use Rattle.fl_cores_laws.specs.Ends.{HasProgress}
use Rattle.fl_cores_laws.specs.Told as progresses
use Rattle.fl_cores_laws.specs.Told.{IsOf, AreTold}
use Rattle.fl_cores_fork.specs.Tells as told
use Rattle.fl_cores_fork.specs.Runs.{TheFinishedCore, TheCoreThread}
use Rattle.fl_cores_fork.specs.Tells.{progress_left, waiting_left, both_at, by_binding, Tells}
use Rattle.fl_cores_parts.specs.Begins.{TheCoreInputs, AreCoreThreads}
use Rattle.fl_cores.specs.Runs.{AreRuns}
use Rattle.fl_cores.proofs.Runs.{is_past, RunAt, run_at, CoreThreadAt, core_thread_at}
use Rattle.fl_cores.proofs.RunsProgress.{at_slot, own_progress, has_progress}
use Rattle.fl_cores.proofs.ToldProgress.{same_jobs}

-- ---- the lists of a report

range_at : {X : Type 0} (f : ℕ → X) (a n i k : ℕ) → i < n → k ≡ a + i → slice_get (map f (range_with_len a n)) i ≡ Some (f k)
range_at f a zero i k below is = absurd (omega (arith, below))
range_at f a (suc n) zero k below is = let same : a ≡ k = omega (arith, is) in ap (λ m. Some (f m)) same
range_at f a (suc n) (suc i) k below is = range_at f (a + 1) n i k (omega (arith, below)) (omega (arith, is))

at_both : (calls : EndId → List TheCall) (n : ℕ) (s : Side) → at_side s (both_at calls n) ≡ calls (record { binding = n; side = s })
at_both calls n Client = refl
at_both calls n Server = refl

module _ (calls : EndId → List TheCall) (n : ℕ) (e : EndId) (all : List BothEnds) (is : all ≡ map (both_at calls) (range_with_len 0 n)) where
  told_there : e.binding < n → at_end all e ≡ calls e
  told_there below =
      ap (λ (xs : List BothEnds). at_end xs e) is
      ∙ ap (λ (o : Option BothEnds). given o [] (at_side e.side)) (range_at (both_at calls) 0 n e.binding e.binding below (omega arith))
      ∙ at_both calls e.binding e.side

  told_past : n ≤ e.binding → at_end all e ≡ []
  told_past past =
      let many : length (map (both_at calls) (range_with_len 0 n)) ≡ n = length-map-range_with_len (both_at calls) 0 n in
      ap (λ (xs : List BothEnds). at_end xs e) is
      ∙ ap (λ (o : Option BothEnds). given o [] (at_side e.side)) (slice_get_past (map (both_at calls) (range_with_len 0 n)) e.binding (omega (arith, past, many)))

-- ---- an end's progress in the end

handled_in : (o : Option TheEndProgress) → given o [] told.handled_by ≡ map call_of (in_progress o)
handled_in None = refl
handled_in (Some d) = refl

sent_in : (jobs : List CoreJob) (end_work : TheEndWork) (o : Option TheEndProgress) → ((d : TheEndProgress) → o ≡ Some d → d.jobs ≡ end_work.jobs)
    → given o [] (told.sent_by jobs end_work) ≡ done_at jobs o ++ flat_map (reply_by end_work.rules) (map call_of (in_progress o))
sent_in jobs end_work None own = refl
sent_in jobs end_work (Some d) own =
    ap (λ (places : List ℕ). calls_of_jobs jobs (take d.done places) ++ flat_map (reply_by end_work.rules) (told.handled_by d)) (sym (own d refl))

module _ (j : TheJoinedJobs) (outcomes : List TheFinishedCore) (e : EndId) (b : BindingCores) (b_is : slice_get j.bindings e.binding ≡ Some b)
    (o : TheFinishedCore) (o_is : slice_get outcomes (core_of e.side b) ≡ Some o) (few : e.binding < most_bindings) where
  left : progress_left j outcomes e ≡ slice_get o.run.progresses (slot_of e)
  left =
      ap (λ (x : Option BindingCores). given (given x None (λ y. Some (core_of e.side y))) None (λ core. given (slice_get outcomes core) None (λ (u : TheFinishedCore). slice_get u.run.progresses (slot_of e)))) b_is
      ∙ ap (λ (x : Option TheFinishedCore). given x None (λ (u : TheFinishedCore). slice_get u.run.progresses (slot_of e))) o_is

  handled_slot : handled_of o.run e ≡ in_progress (slice_get o.run.progresses (slot_of e))
  handled_slot = at_slot o.run.progresses e few in_progress [] refl

  handled_is : told.handled_at j outcomes e ≡ progresses.handled_by o.run e
  handled_is =
      ap (λ (x : Option TheEndProgress). given x [] told.handled_by) left
      ∙ handled_in (slice_get o.run.progresses (slot_of e))
      ∙ sym (ap (map call_of) handled_slot)

  waiting_is : waiting_left j outcomes e ≡ count_waiting o.run e
  waiting_is =
      ap (λ (x : Option BindingCores). given (given x None (λ y. Some (core_of e.side y))) 0
      (λ core. given (slice_get outcomes core) 0 (λ (u : TheFinishedCore). count_waiting u.run e))) b_is
      ∙ ap (λ (x : Option TheFinishedCore). given x 0 (λ (u : TheFinishedCore). count_waiting u.run e)) o_is

  sent_is : ((d : TheEndProgress) → slice_get o.run.progresses (slot_of e) ≡ Some d → d.jobs ≡ (end_work_at j.end_works e).jobs)
      → told.sent_at j outcomes e ≡ progresses.sent_by j.jobs (end_work_at j.end_works e) o.run e
  sent_is own =
      let end_work = end_work_at j.end_works e in
      let progress : Option TheEndProgress = slice_get o.run.progresses (slot_of e) in
      ap (λ (x : Option TheEndProgress). given x [] (told.sent_by j.jobs end_work)) left
      ∙ sent_in j.jobs end_work progress own
      ∙ ap (λ (calls : List TheCall). calls ++ flat_map (reply_by end_work.rules) (map call_of (in_progress progress))) (sym (ap (done_at j.jobs) (at_slot o.run.progresses e few (λ x. x) None refl)))
      ∙ ap (λ (calls : List TheCall). done_of j.jobs o.run e ++ flat_map (reply_by end_work.rules) calls) (sym (ap (map call_of) handled_slot))

  made_is : ((d : TheEndProgress) → slice_get o.run.progresses (slot_of e) ≡ Some d → d.jobs ≡ (end_work_at j.end_works e).jobs)
      → told.made_at j outcomes e ≡ progresses.made_by j.jobs (end_work_at j.end_works e) o.run e
  made_is own =
      ap (λ (waiting : ℕ). accepted_of waiting (told.sent_at j outcomes e)) waiting_is ∙ ap (accepted_of (count_waiting o.run e)) (sent_is own)

-- ---- of a run

-- a run of cores by these jobs, from core threads that were made of cores, with what came of each
pub record RunOf (j : TheJoinedJobs) (cores : List OneCore) (outcomes : List TheFinishedCore) : Type 0 where
  pub core_threads : List TheCoreThread
  pub runs : AreRuns j.jobs core_threads outcomes cores
  pub common : TheCoreInputs
  pub joined : common.joined ≡ j
  pub ks : List TheCore
  pub begin : AreCoreThreads common 0 ks core_threads
  pub few : length j.bindings ≤ 1024

module _ (j : TheJoinedJobs) (cores : List OneCore) (outcomes : List TheFinishedCore) (run : RunOf j cores outcomes) where
  few_bindings : (e : EndId) (b : BindingCores) → slice_get j.bindings e.binding ≡ Some b → e.binding < most_bindings
  few_bindings e b is =
      let within = slice_get_within j.bindings e.binding b is in
      let few = run.few in
      omega (arith, within, few)

  -- the core of an end, with what it was given and what came of it
  at_core : (e : EndId) (c : OneCore) (of : IsOf j cores e c) → RunAt j.jobs run.core_threads outcomes (core_of e.side of.bound) c
  at_core e c of = run_at j.jobs run.core_threads outcomes cores run.runs (core_of e.side of.bound) c of.core_is

  given_at : (e : EndId) (c : OneCore) (of : IsOf j cores e c) → CoreThreadAt run.common run.ks (core_of e.side of.bound) (at_core e c of).core_thread
  given_at e c of = core_thread_at run.common run.ks run.core_threads run.begin (core_of e.side of.bound) (at_core e c of).core_thread (at_core e c of).core_thread_is

  -- the end's progress of each end has the jobs of its end's work, of which none is done
  pub progresses_begin : (e : EndId) (c : OneCore) → IsOf j cores e c → HasProgress (end_work_at j.end_works e) c.start e
  progresses_begin e c of =
      let s = given_at e c of in
      let bound : slice_get run.common.joined.bindings e.binding ≡ Some of.bound = ap (λ (x : TheJoinedJobs). slice_get x.bindings e.binding) run.joined ∙ of.bound_is in
      let few : length run.common.joined.bindings ≤ 1024 = subst (λ (x : TheJoinedJobs). length x.bindings ≤ 1024) (sym run.joined) run.few in
      let progress = has_progress run.common (core_of e.side of.bound) s.core (at_core e c of).core_thread s.is few e of.bound bound refl in
      subst (λ (x : TheJoinedJobs). HasProgress (end_work_at x.end_works e) c.start e) run.joined
      (subst (λ (t : TheRun TheSide). HasProgress (end_work_at run.common.joined.end_works e) t e) (sym (at_core e c of).is.start) progress)

  -- and has these jobs in the end
  own_jobs : (e : EndId) (c : OneCore) (of : IsOf j cores e c) (d : TheEndProgress) → slice_get (at_core e c of).outcome.run.progresses (slot_of e) ≡ Some d
      → d.jobs ≡ (end_work_at j.end_works e).jobs
  own_jobs e c of d there =
      let r = at_core e c of in
      let s = given_at e c of in
      let bound : slice_get run.common.joined.bindings e.binding ≡ Some of.bound = ap (λ (x : TheJoinedJobs). slice_get x.bindings e.binding) run.joined ∙ of.bound_is in
      let before = own_progress run.common (core_of e.side of.bound) s.core r.core_thread s.is e of.bound bound refl in
      same_jobs j.jobs c.log c.start c.finish r.is.goes (slot_of e) _ d
      (ap (λ (t : TheRun TheSide). slice_get t.progresses (slot_of e)) r.is.start ∙ before)
      (ap (λ (t : TheRun TheSide). slice_get t.progresses (slot_of e)) r.is.finish ∙ there)
      ∙ ap (λ (x : TheJoinedJobs). (end_work_at x.end_works e).jobs) run.joined

  -- a report that tells what came of the cores, tells what their ends' progress have
  pub are_told : (r : TheReport) → Tells j outcomes r → AreTold j cores r.made r.handled
  are_told r tells = record {
    handled = λ e c of.
        let x = at_core e c of in
        told_there (told.handled_at j outcomes) (length j.bindings) e r.handled tells.handled (slice_get_within j.bindings e.binding of.bound of.bound_is)
        ∙ handled_is j outcomes e of.bound of.bound_is x.outcome x.outcome_is (few_bindings e of.bound of.bound_is)
        ∙ ap (λ (t : TheRun TheSide). progresses.handled_by t e) (sym x.is.finish);
    made = λ e c of.
        let x = at_core e c of in
        told_there (told.made_at j outcomes) (length j.bindings) e r.made tells.made (slice_get_within j.bindings e.binding of.bound of.bound_is)
        ∙ made_is j outcomes e of.bound of.bound_is x.outcome x.outcome_is (few_bindings e of.bound of.bound_is) (own_jobs e c of)
        ∙ ap (λ (t : TheRun TheSide). progresses.made_by j.jobs (end_work_at j.end_works e) t e) (sym x.is.finish);
    no_more = λ e none.
        let past = is_past j.bindings e.binding none in (
          told_past (told.handled_at j outcomes) (length j.bindings) e r.handled tells.handled past,
          told_past (told.made_at j outcomes) (length j.bindings) e r.made tells.made past,
        );
  }
