-- Ends of bindings whose opening was refused: they did nothing.
use Rattle.std.proofs.Common.{◌≡◌, ◌≢◌, refl, sym, ap, ◌∙◌, ℕ, ◌==◌, if◌then◌else◌, List, [], ◌∷◌, ◌++◌, map, take, length, slice_get, Option, Some, None, IsSome, Bool, true, false, arith}
use Rattle.std.specs.List.{flat_map}
use Rattle.std.proofs.lemmas.Option.{same_Some}
use Rattle.std.proofs.lemmas.Bool.Decides.{nat_tests}
use Rattle.fl_base.specs.declared.identity.EndId.{EndId}
use Rattle.fl_base.specs.declared.identity.Side.{Side}
use Rattle.fl_base.specs.declared.identity.Side.TheVariants.{Client, Server}
use Rattle.fl_base.specs.Ends.{peer}
use Rattle.fl_base.specs.Prefix.{IsPrefix}
use Rattle.fl_base.specs.Given.{given}
use Rattle.fl_value_data.specs.declared.value.Call.{Call}
use Rattle.fl_value_data.specs.Value.{TheCall, call_of}
use Rattle.fl_hop.proofs.Lists.{at_within}
use Rattle.fl_core.specs.Sound.{IsCore}
use Rattle.fl_core.specs.View.{client_of}
use Rattle.fl_core_run.specs.EndProgress.{TheEndProgress, progress_place}
use Rattle.fl_core_run.specs.LogEntries.{LogEntry}
use Rattle.fl_core.specs.Jobs.{calls_of_jobs}
use Rattle.fl_core_run.specs.OpeningStatus.{refusal_at}
use Rattle.fl_core_run.specs.Accepted.{count_waiting}
use Rattle.fl_core_run.proofs.Accepting.{none_accepted}
use Rattle.fl_core_run_laws.specs.Led.{IsLed}
use Rattle.fl_core_run_laws.specs.Logs.{Goes, handled_at, in_progress, handled_of, TurnsAreLogged, ProgressTellHandled, CountedAreTurns}
use Rattle.fl_core_run_laws.specs.Made.{done_at, progress_of, done_of, made_at, LogsMakeJobs}
use Rattle.fl_core_run_laws.proofs.Leading.{leads_at_first}
use Rattle.fl_cores_file.specs.Jobs.{Job}
use Rattle.fl_cores_file.specs.Report.{TheReport, at_end, refusal_of, Honest}
use Rattle.fl_cores_jobs.specs.declared.end_work.BindingCores.{BindingCores}
use Rattle.fl_cores_jobs.specs.EndWork.{end_work_at, reply_by}
use Rattle.fl_cores_jobs.specs.Joined.{core_of, core_at}
use Rattle.fl_cores_jobs.specs.State.{TheJoinedJobs}
use Rattle.fl_cores_laws.specs.EndedCores.{shared_ways, OneCore}
use Rattle.fl_cores_laws.specs.EndedBegins.{HasProgress, Begins, Ran}
use Rattle.fl_cores_laws.specs.Complete.{Knows}
use Rattle.fl_cores_laws.specs.Few.{AreEnds, AreFirst, DispatchersHandleFew}
use Rattle.fl_cores_laws.specs.Refused.{WasRefused, RefusedAreOpened, RefusedAreSilent, HonestHandleFew}
use Rattle.fl_cores_laws.proofs.Complete.{core_below, first_of}
use Rattle.fl_cores_laws.proofs.EndedProgress.{has_place, is_some_by}
use Rattle.fl_cores_laws.proofs.Ended.{to_point, to_finish}
use Rattle.fl_cores_laws.proofs.Going.{goes_then}
use Rattle.fl_cores_laws.proofs.EndedNamed.{refused_there, stay_so}
use Rattle.fl_cores_laws.proofs.Older.{log_older}
use Rattle.fl_cores_laws.proofs.Silent.{DidNothing, unbound_did_nothing}
use Rattle.fl_cores_laws.proofs.Staying.{IsOver, by_log}

-- ---- a refusal that is told

some_number : (n : ℕ) (b : Bool) → (n == 0) ≡ b → (fault : ℕ) → (if b then None else Some n) ≡ Some fault → n ≢ 0
some_number n true is fault told zero_is = absurd (let clash : None ≡ Some fault = told in cc)
some_number n false is fault told zero_is = absurd (grind (arith, nat_tests, is, zero_is))

module _ (logged : TurnsAreLogged shared_ways) (tell : ProgressTellHandled shared_ways) (turns : CountedAreTurns shared_ways) (make : LogsMakeJobs shared_ways)
    (asked : List Job) (j : TheJoinedJobs) (limit : ℕ) (cores : List OneCore) (r : TheReport) (ran : Ran asked j limit cores r) where
  -- ---- the client's end of a binding whose opening was refused

  module _ (binding : ℕ) (b : BindingCores) (c : OneCore) (bound : slice_get j.bindings binding ≡ Some b) (at : slice_get cores b.client ≡ Some c)
      (some : refusal_at c.finish (client_of binding) ≢ 0) where
    abbrev e : EndId
    e = client_of binding

    begins : Begins j b.client c
    begins = ran.begins b.client c at

    abbrev whole : (log : List LogEntry) × Goes shared_ways j.jobs c.begin.run log c.finish
    whole =
        let one = to_point logged tell turns j limit b.client c begins (ran.went b.client c at) in
        let two = to_finish logged tell turns j limit b.client c begins (ran.went b.client c at) in
        let first = logged c.plan j.jobs one.0 c.begin.run c.point.run one.1 in
        let rest = logged c.plan j.jobs two.0 c.point.run c.finish two.1 in
        (first.log ++ rest.log, goes_then j.jobs first.log rest.log c.begin.run c.point.run c.finish first.goes rest.goes)

    over : IsOver j.jobs e c.finish
    over = (by_log (length cores) asked j ran.joined b.client c begins e whole.0 c.finish whole.1 some).over some

    own : core_at j.bindings e ≡ Some b.client
    own = ap (λ (o : Option BindingCores). given o None (λ (x : BindingCores). Some (core_of Client x))) bound

    opened_by : (o : Option ℕ) → b.opened ≡ o → (job : ℕ) × (b.opened ≡ Some job)
    opened_by None is =
        let never = ran.joined.set_up binding b bound is over.requested.place over.requested.request over.requested.job_is in
        absurd (never (sym (ap (λ (x : EndId). x.binding) over.requested.end_is)))
    opened_by (Some job) is = (job, is)

    opened : (job : ℕ) × (b.opened ≡ Some job)
    opened = opened_by b.opened refl

    led_first : IsCore c.begin.run.core → IsLed c.begin.run.core
    led_first core = leads_at_first c.begin.run.core (λ place p there. begins.off_links p.name place p (core.named place p there) there) begins.quiet

    nothing_by : (log : List LogEntry) → Goes shared_ways j.jobs c.begin.run log c.finish → DidNothing j.jobs e log
    nothing_by [] goes = (refl, refl)
    nothing_by (log_entry ∷ log) goes =
        unbound_did_nothing j.jobs e (log_entry ∷ log) c.begin.run c.finish goes (begins.absent e b opened.0 bound opened.1) (led_first goes.1.3.core) over.none

    nothing : DidNothing j.jobs e whole.0
    nothing = nothing_by whole.0 whole.1

    progress : HasProgress j c e
    progress = begins.progresses e own

    place_of_progress : (n : ℕ) × (progress_place c.begin.run.progresses e ≡ Some n) × (slice_get c.begin.run.progresses n ≡ Some progress.progress)
    place_of_progress = has_place (progress_place c.begin.run.progresses e) c.begin.run.progresses progress.progress progress.progress_is

    has_progress : IsSome (progress_place c.begin.run.progresses e)
    has_progress = is_some_by (progress_place c.begin.run.progresses e) place_of_progress.0 place_of_progress.1

    none_handled : handled_of c.finish e ≡ []
    none_handled =
        let before : handled_of c.begin.run e ≡ [] =
        ap (λ (o : Option ℕ). given o [] (λ (n : ℕ). in_progress (slice_get c.begin.run.progresses n))) place_of_progress.1 ∙ ap in_progress place_of_progress.2 ∙ progress.none_handled in
        tell j.jobs c.begin.run c.finish whole.0 e has_progress whole.1
        ∙ ap (λ (calls : List Call). calls ++ handled_at e whole.0) before ∙ nothing.0

    handled_none : at_end r.handled e ≡ []
    handled_none = ran.progresses.handled e b.client c own at ∙ ap (map call_of) none_handled

    -- none of its jobs is done that is a call
    done_none : (d : TheEndProgress) → progress_of c.finish e ≡ Some d → calls_of_jobs j.jobs (take d.done (end_work_at j.end_works e).jobs) ≡ []
    done_none d is =
        let old = log_older j.jobs whole.0 c.begin.run c.finish whole.1 e d is in
        let same : old.progress ≡ progress.progress = same_Some old.progress progress.progress (sym old.progress_is ∙ progress.progress_is) in
        let untouched = begins.untouched e progress.progress progress.progress_is in
        let jobs_are : d.jobs ≡ (end_work_at j.end_works e).jobs = old.older.jobs ∙ ap (λ (x : TheEndProgress). x.jobs) same ∙ progress.jobs in
        let none_before : done_of j.jobs c.begin.run e ≡ [] = ap (done_at j.jobs) progress.progress_is ∙ ap (λ (n : ℕ). calls_of_jobs j.jobs (take n progress.progress.jobs)) untouched.done in
        let after : done_of j.jobs c.finish e ≡ [] =
        (make j.jobs c.begin.run c.finish whole.0 e has_progress whole.1).done ∙ ap (λ (cs : List TheCall). cs ++ made_at e whole.0) none_before ∙ nothing.1 in
        ap (λ (ps : List ℕ). calls_of_jobs j.jobs (take d.done ps)) (sym jobs_are) ∙ sym (ap (done_at j.jobs) is) ∙ after

    made_by_progress : (o : Option TheEndProgress) → progress_of c.finish e ≡ o → at_end r.made e ≡ []
    made_by_progress None is = ran.progresses.unmade e b.client c own at is
    made_by_progress (Some d) is =
        ran.progresses.made e b.client c d own at is
        ∙ none_accepted (count_waiting c.finish e) (calls_of_jobs j.jobs (take d.done (end_work_at j.end_works e).jobs)
        ++ flat_map (reply_by (end_work_at j.end_works e).rules) (map call_of (handled_of c.finish e)))
        (ap (λ (cs : List TheCall). cs ++ flat_map (reply_by (end_work_at j.end_works e).rules) (map call_of (handled_of c.finish e))) (done_none d is)
        ∙ ap (λ (hs : List Call). flat_map (reply_by (end_work_at j.end_works e).rules) (map call_of hs)) none_handled)

    pub was_refused : WasRefused j r binding
    was_refused = record {
      bound = b;
      bound_is = bound;
      job = opened.0;
      opened = opened.1;
      handled = handled_none;
      made = made_by_progress (progress_of c.finish e) refl;
    }

  -- ---- a binding that is named

  by_bound : (binding fault : ℕ) → refusal_of r binding ≡ Some fault → (o : Option BindingCores) → slice_get j.bindings binding ≡ o → WasRefused j r binding
  by_bound binding fault told None is = absurd (let clash : None ≡ Some fault = sym (ran.progresses.no_refusal binding is) ∙ told in cc)
  by_bound binding fault told (Some b) is =
      let (c, at) = at_within cores b.client (core_below (length cores) j.bindings j.owners ran.joined.bindings Client binding b is) in
      let number = refusal_at c.finish (client_of binding) in
      was_refused binding b c is at (some_number number (number == 0) refl fault (sym (ran.progresses.refused binding b c is at) ∙ told))

  pub refused_opened : (binding fault : ℕ) → refusal_of r binding ≡ Some fault → WasRefused j r binding
  refused_opened binding fault told = by_bound binding fault told (slice_get j.bindings binding) refl

  -- ---- either end

  first_of_none : {X : Type 0} (xs ys : List X) → IsPrefix xs ys → ys ≡ [] → xs ≡ []
  first_of_none [] ys (p, is) none = refl
  first_of_none (x ∷ xs) ys (p, is) none = absurd (let clash : x ∷ (xs ++ p) ≡ [] = sym is ∙ none in cc)

  module _ (honest : Honest asked r) (binding : ℕ) (refused : WasRefused j r binding) where
    silent_by : (e : EndId) → e.binding ≡ binding → (s : Side) → e.side ≡ s → at_end r.handled e ≡ []
    silent_by e same Client side =
        let is : e ≡ client_of binding = ap (λ (x : Side). record { binding = e.binding; side = x }) side ∙ ap (λ (n : ℕ). client_of n) same in
        ap (λ (x : EndId). at_end r.handled x) is ∙ refused.handled
    silent_by e same Server side =
        let is : peer e ≡ client_of binding = ap (λ (s : Side). peer (record { binding = e.binding; side = s })) side ∙ ap (λ (n : ℕ). client_of n) same in
        first_of_none (at_end r.handled e) (at_end r.made (peer e)) (honest.handled e) (ap (λ (x : EndId). at_end r.made x) is ∙ refused.made)

  pub refused_silent : Honest asked r → (n : ℕ) (c : OneCore) (e : EndId) → slice_get cores n ≡ Some c → Knows c e → at_end r.handled e ≡ []
  refused_silent honest n c e at knows =
      let there = refused_there logged tell turns asked j limit cores r ran (stay_so logged asked j limit cores r ran) n c e at knows in
      silent_by honest e.binding (was_refused e.binding there.bound there.core there.bound_is there.core_is there.refuses) e refl e.side refl

  are_first : Honest asked r → (n d : ℕ) (c : OneCore) → slice_get cores n ≡ Some c → (ends : List EndId) → AreEnds j n c d ends → AreFirst asked c r ends
  are_first honest n d c at [] are = tt
  are_first honest n d c at (e ∷ ends) are = (
    first_of logged tell turns asked j limit cores r ran honest e,
    λ knows. refused_silent honest n c e at knows,
    are_first honest n d c at ends are.3,
  )

pub opened_refused : TurnsAreLogged shared_ways → ProgressTellHandled shared_ways → CountedAreTurns shared_ways → LogsMakeJobs shared_ways → RefusedAreOpened
opened_refused logged tell turns make asked j limit cores r ran binding fault told = refused_opened logged tell turns make asked j limit cores r ran binding fault told

pub silent_refused : TurnsAreLogged shared_ways → ProgressTellHandled shared_ways → CountedAreTurns shared_ways → LogsMakeJobs shared_ways → RefusedAreSilent
silent_refused logged tell turns make asked j limit cores r ran honest n c e at knows = refused_silent logged tell turns make asked j limit cores r ran honest n c e at knows

pub honest_few : TurnsAreLogged shared_ways → ProgressTellHandled shared_ways → CountedAreTurns shared_ways → LogsMakeJobs shared_ways → DispatchersHandleFew → HonestHandleFew
honest_few logged tell turns make law asked j limit cores r ran honest n d c ends at are =
    law asked j limit cores r ran n d c ends at are (are_first logged tell turns make asked j limit cores r ran honest n d c at ends are)
