-- Behind each report stand cores that ran the jobs joined for them.
use Rattle.std.proofs.Common.{◌≡◌, refl, sym, ap, ◌∙◌, subst, ℕ, ◌<◌, ◌≤◌, List, [], ◌++◌, map, take, length, slice_get, Option, Some, None, Bool, if◌then◌else◌, arith}
use Rattle.fl_base.specs.declared.identity.EndId.{EndId}
use Rattle.fl_base.specs.declared.identity.Side.TheVariants.{Client}
use Rattle.std.specs.List.{flat_map, AllZip}
use Rattle.fl_base.specs.Given.{given}
use Rattle.fl_value_data.specs.declared.value.Call.{Call}
use Rattle.fl_value_data.specs.Value.{call_of}
use Rattle.fl_core.specs.Jobs.{calls_of_jobs}
use Rattle.fl_core_run_laws.specs.Made.{progress_of}
use Rattle.fl_cores_jobs.specs.EndWork.{end_work_at, reply_by}
use Rattle.fl_core.specs.View.{TheCore, slot_of, client_of}
use Rattle.fl_hop.proofs.Lists.{within}
use Rattle.fl_core_run.specs.declared.opening_status.OpeningStatus.{OpeningStatus}
use Rattle.fl_core_run.specs.EndProgress.{TheEndProgress, progress_place}
use Rattle.fl_core_run.specs.Accepted.{count_waiting, accepted_of}
use Rattle.fl_core_run.proofs.Accepting.{none_accepted}
use Rattle.fl_core_run.specs.OpeningStatus.{refusal_at as refusal_there}
use Rattle.fl_core_run_laws.specs.Logs.{handled_of}
use Rattle.fl_cores_file.specs.Report.{TheReport, BothEnds, at_end, refusal_of, complete, turns_out}
use Rattle.fl_world_refines.specs.declared.parts.Parts.{Parts}
use Rattle.fl_core_refines.specs.SetUpStart.{SetUpsStartFresh}
use Rattle.fl_cores_jobs.specs.declared.end_work.BindingCores.{BindingCores}
use Rattle.fl_cores_jobs.specs.Joined.{core_of, core_at}
use Rattle.fl_cores_jobs.specs.State.{TheJoinedJobs, AreJoined}
use Rattle.fl_cores_laws.specs.EndedCores.{OneCore, Went}
use Rattle.fl_cores_laws.specs.EndedTurns.{TellsTurns}
use Rattle.fl_cores_laws.specs.EndedHeard.{TablesTell}
use Rattle.fl_cores_laws.specs.EndedBegins.{Begins, TellsProgress, refusal_by}
use Rattle.fl_cores_laws.proofs.Complete.{past, bound_by}
use Rattle.fl_cores_fork.specs.Runs.{TheFinishedCore, TheCoreThread, RanTo}
use Rattle.fl_cores_fork.specs.Tells.{Tells, progress_left, handled_by, handled_at, sent_by, sent_at, waiting_left, made_at, refusal_in, refusal_at}
use Rattle.fl_cores_parts.specs.Begins.{Places, IsCoreThread, AreCoreThreads, common_in, progress_for, progresses_of}
use Rattle.fl_cores.specs.Behind.{core_of as the_core, cores_of, cores_in}
use Rattle.fl_cores.specs.Outcomes.{ReportsAreOfRuns}
use Rattle.fl_cores.proofs.CoresBegin.{places_in, are_core_threads}
use Rattle.fl_cores.proofs.CoresEnding.{in_plan, is_in_plan}
use Rattle.fl_cores.proofs.CoresProgress.{at_slot, is_new, own_jobs, untouched, progress_found, progress_there, progress_missing, handled_there, handled_is, refused_is, told_at, told_past, told_number, no_number}
use Rattle.fl_cores.proofs.CoresCoreThreads.{at_core_thread, as_many_core_threads, AtCore, at_core, as_many_cores, turns_are, left_are, told_are, on_boards}
use Rattle.fl_cores.proofs.CoresHeard.{heard_is_told}
use Rattle.fl_cores.proofs.CoresStart.{StartsQuiet, quiet_renumbered, ruled_quiet}

module _ (p : Parts) (j : TheJoinedJobs) (places : Places) (limit : ℕ) (core_threads : List TheCoreThread) (outcomes : List TheFinishedCore) (r : TheReport)
    (few : length j.bindings ≤ 1024) (are : AreCoreThreads (common_in p j places) 0 p.cores.items core_threads)
    (ran : AllZip (RanTo j.jobs limit) core_threads outcomes) (tells : Tells j outcomes r)
    (starts : (n : ℕ) (k : TheCore) → slice_get p.cores.items n ≡ Some k → StartsQuiet j k) where
  abbrev cores : List OneCore
  cores = cores_of j.jobs limit core_threads outcomes ran

  at_one : (n : ℕ) (c : OneCore) → slice_get cores n ≡ Some c → AtCore j.jobs limit core_threads outcomes n c
  at_one n c at = at_core j.jobs limit core_threads outcomes ran n c at

  below : (e : EndId) (n : ℕ) → core_at j.bindings e ≡ Some n → e.binding < length j.bindings
  below e n own = bound_by j.bindings e n (slice_get j.bindings e.binding) refl own

  numbered : (e : EndId) → e.binding < length j.bindings → e.binding < 1024
  numbered e there = omega (arith, there, few)

  -- ---- as a core begins

  quiet_here : (n : ℕ) (k : TheCore) (s : TheCoreThread) → slice_get p.cores.items n ≡ Some k → IsCoreThread (common_in p j places) n k s → StartsQuiet j s.run.core
  quiet_here n k s there is = quiet_renumbered j places.sides places.queues k s.run.core is.core_is (starts n k there)

  begins_by : (n : ℕ) (k : TheCore) (s : TheCoreThread) (o : TheFinishedCore) (one : RanTo j.jobs limit s o) → slice_get p.cores.items n ≡ Some k → IsCoreThread (common_in p j places) n k s
      → Begins j n (the_core j.jobs limit s o one)
  begins_by n k s o one there is = record {
    ends = λ e own. let (i, at) = in_plan n e j.bindings own in (i, ap (λ (xs : List EndId). slice_get xs i) is.ends ∙ at);
    own = λ i e at. (is_in_plan n j.bindings i e (sym (ap (λ (xs : List EndId). slice_get xs i) is.ends) ∙ at)).own;
    progresses = λ e own. record {
      progress = progress_for n j e;
      progress_is =
          ap (λ (ds : List TheEndProgress). given (progress_place ds e) None (λ (i : ℕ). slice_get ds i)) is.progresses
          ∙ progress_there (progresses_of n j) e (progress_for n j e) (numbered e (below e n own)) (at_slot n j e (below e n own));
      jobs = own_jobs n j e own;
      due = refl;
      none_handled = refl;
    };
    words = λ i e at.
        ap (λ (ws : List OpeningStatus). slice_get ws i) is.words
        ∙ (is_in_plan n j.bindings i e (sym (ap (λ (xs : List EndId). slice_get xs i) is.ends) ∙ at)).word;
    silent = is.seat.stored;
    untouched = λ e d at.
        let found = progress_found s.run.progresses e d at in
        untouched n j e d (is_new n j e d (ap (λ (ds : List TheEndProgress). slice_get ds (slot_of e)) (sym is.progresses) ∙ found)).progress;
    off_links = (quiet_here n k s there is).off_links;
    absent = (quiet_here n k s there is).absent;
    quiet = (quiet_here n k s there is).quiet;
    idle = (quiet_here n k s there is).idle;
  }

  begins : (n : ℕ) (c : OneCore) → slice_get cores n ≡ Some c → Begins j n c
  begins n c at =
      let one = at_one n c at in
      let here = at_core_thread (common_in p j places) 0 p.cores.items core_threads n n one.core_thread are one.core_thread_is (omega arith) in
      subst (λ (x : OneCore). Begins j n x) one.core_is (begins_by n here.core one.core_thread one.outcome one.ran here.core_is here.core_thread)

  -- ---- its turns

  went : (n : ℕ) (c : OneCore) → slice_get cores n ≡ Some c → Went j.jobs limit c
  went n c at =
      let one = at_one n c at in
      subst (λ (x : OneCore). Went j.jobs limit x) one.core_is (record { counted = one.ran.counted; goes_on = one.ran.goes_on })

  told_turns : TellsTurns cores r
  told_turns = record {
    turns = tells.turns ∙ turns_are j.jobs limit core_threads outcomes ran;
    none_told = sym (told_are j.jobs limit core_threads outcomes ran) ∙ tells.none_told;
    ending = tells.ending ∙ ap (λ (b : Bool). if b then turns_out else complete) (left_are j.jobs limit core_threads outcomes ran);
  }

  -- ---- what is told of its ends' progress

  left_is : (e : EndId) (n : ℕ) (o : TheFinishedCore) → core_at j.bindings e ≡ Some n → slice_get outcomes n ≡ Some o → progress_left j outcomes e ≡ slice_get o.run.progresses (slot_of e)
  left_is e n o own at =
      ap (λ (x : Option ℕ). given x None (λ (core : ℕ). given (slice_get outcomes core) None (λ (y : TheFinishedCore). slice_get y.run.progresses (slot_of e)))) own
      ∙ ap (λ (x : Option TheFinishedCore). given x None (λ (y : TheFinishedCore). slice_get y.run.progresses (slot_of e))) at

  handled : (e : EndId) (n : ℕ) (c : OneCore) → core_at j.bindings e ≡ Some n → slice_get cores n ≡ Some c → at_end r.handled e ≡ map call_of (handled_of c.finish e)
  handled e n c own at =
      let one = at_one n c at in
      let there = below e n own in
      ap (λ (hs : List BothEnds). at_end hs e) tells.handled
      ∙ told_at j (handled_at j outcomes) e there
      ∙ ap (λ (d : Option TheEndProgress). given d [] handled_by) (left_is e n one.outcome own one.outcome_is)
      ∙ handled_is one.outcome.run.progresses e (numbered e there)
      ∙ ap (λ (x : OneCore). map call_of (handled_of x.finish e)) one.core_is

  refused : (n : ℕ) (b : BindingCores) (c : OneCore) → slice_get j.bindings n ≡ Some b → slice_get cores b.client ≡ Some c
      → refusal_of r n ≡ refusal_by (refusal_there c.finish (client_of n))
  refused n b c bound at =
      let one = at_one b.client c at in
      let there : n < length j.bindings = within j.bindings n b bound in
      let own : core_at j.bindings (client_of n) ≡ Some b.client = ap (λ (o : Option BindingCores). given o None (λ (x : BindingCores). Some (core_of Client x))) bound in
      ap (λ (fs : List (Option ℕ)). given (slice_get fs n) None (λ (fault : Option ℕ). fault)) tells.refused
      ∙ told_number j (refusal_at j outcomes) n there
      ∙ ap (λ (d : Option TheEndProgress). given d None refusal_in) (left_is (client_of n) b.client one.outcome own one.outcome_is)
      ∙ refused_is one.outcome.run.progresses (client_of n) (omega (arith, there, few))
      ∙ ap (λ (x : OneCore). refusal_by (refusal_there x.finish (client_of n))) one.core_is

  waiting_is : (e : EndId) (n : ℕ) (o : TheFinishedCore) → core_at j.bindings e ≡ Some n → slice_get outcomes n ≡ Some o
      → waiting_left j outcomes e ≡ count_waiting o.run e
  waiting_is e n o own at =
      ap (λ (x : Option ℕ). given x 0 (λ (core : ℕ). given (slice_get outcomes core) 0 (λ (y : TheFinishedCore). count_waiting y.run e))) own
      ∙ ap (λ (x : Option TheFinishedCore). given x 0 (λ (y : TheFinishedCore). count_waiting y.run e)) at

  made : (e : EndId) (n : ℕ) (c : OneCore) (d : TheEndProgress) → core_at j.bindings e ≡ Some n → slice_get cores n ≡ Some c → progress_of c.finish e ≡ Some d
      → at_end r.made e ≡ accepted_of (count_waiting c.finish e) (calls_of_jobs j.jobs (take d.done (end_work_at j.end_works e).jobs)
      ++ flat_map (reply_by (end_work_at j.end_works e).rules) (map call_of (handled_of c.finish e)))
  made e n c d own at is =
      let one = at_one n c at in
      let there = below e n own in
      let found : slice_get one.outcome.run.progresses (slot_of e) ≡ Some d =
      progress_found one.outcome.run.progresses e d (ap (λ (x : OneCore). progress_of x.finish e) one.core_is ∙ is) in
      let end_work = end_work_at j.end_works e in
      ap (λ (hs : List BothEnds). at_end hs e) tells.made
      ∙ told_at j (made_at j outcomes) e there
      ∙ ap (λ (waiting : ℕ). accepted_of waiting (sent_at j outcomes e))
      (waiting_is e n one.outcome own one.outcome_is ∙ ap (λ (x : OneCore). count_waiting x.finish e) one.core_is)
      ∙ ap (accepted_of (count_waiting c.finish e))
      (ap (λ (o : Option TheEndProgress). given o [] (sent_by j.jobs end_work)) (left_is e n one.outcome own one.outcome_is ∙ found)
      ∙ ap (λ (hs : List Call). calls_of_jobs j.jobs (take d.done end_work.jobs) ++ flat_map (reply_by end_work.rules) (map call_of hs))
      (sym (handled_there one.outcome.run.progresses e d (numbered e there) found) ∙ ap (λ (x : OneCore). handled_of x.finish e) one.core_is))

  unmade : (e : EndId) (n : ℕ) (c : OneCore) → core_at j.bindings e ≡ Some n → slice_get cores n ≡ Some c → progress_of c.finish e ≡ None → at_end r.made e ≡ []
  unmade e n c own at none =
      let one = at_one n c at in
      let there = below e n own in
      let missing : slice_get one.outcome.run.progresses (slot_of e) ≡ None =
      progress_missing one.outcome.run.progresses e (numbered e there) (ap (λ (x : OneCore). progress_of x.finish e) one.core_is ∙ none) in
      ap (λ (hs : List BothEnds). at_end hs e) tells.made
      ∙ told_at j (made_at j outcomes) e there
      ∙ none_accepted (waiting_left j outcomes e) (sent_at j outcomes e)
      (ap (λ (o : Option TheEndProgress). given o [] (sent_by j.jobs (end_work_at j.end_works e))) (left_is e n one.outcome own one.outcome_is ∙ missing))

  told_progresses : TellsProgress j cores r
  told_progresses = record {
    handled = handled;
    made = made;
    unmade = unmade;
    no_refusal = λ n none.
        ap (λ (fs : List (Option ℕ)). given (slice_get fs n) None (λ (fault : Option ℕ). fault)) tells.refused ∙ no_number j (refusal_at j outcomes) n (past j.bindings n none);
    refused = refused;
    no_more = λ e none. ap (λ (hs : List BothEnds). at_end hs e) tells.handled ∙ told_past j (handled_at j outcomes) e (past j.bindings e.binding none);
  }

-- ---- the whole

pub runs_of : SetUpsStartFresh → TablesTell → ReportsAreOfRuns
runs_of fresh tables c jobs limit r w =
    let from = w.ran.ran in
    let j = from.joined in
    let p = from.parts in
    let all = from.ran in
    let places = places_in w in
    let are = are_core_threads w in
    let few = from.are_joined.bindings.few in
    let starts = ruled_quiet fresh c jobs limit r w in
    let many : length (cores_in w) ≡ length w.ran.parts.cores.items =
    as_many_cores j.jobs limit all.core_threads all.outcomes all.ran ∙ as_many_core_threads (common_in p j places) 0 p.cores.items all.core_threads are
    ∙ (on_boards w.ran.parts.bindings.items jobs w.ran.parts.cores.items p.cores.items from.rules).count in
    record {
      joined = subst (λ (n : ℕ). AreJoined n jobs j) (sym many) from.are_joined;
      due = from.are_due;
      begins = begins p j places limit all.core_threads all.outcomes r few are all.ran all.tells starts;
      went = went p j places limit all.core_threads all.outcomes r few are all.ran all.tells starts;
      heard = heard_is_told tables j limit all.core_threads all.outcomes all.ran all.heard;
      turns = told_turns p j places limit all.core_threads all.outcomes r few are all.ran all.tells starts;
      progresses = told_progresses p j places limit all.core_threads all.outcomes r few are all.ran all.tells starts;
    }
