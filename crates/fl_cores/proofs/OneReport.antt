-- The report of a run of one core is that which the machine tells: its turns, and the calls of its ends.
use Rattle.std.proofs.Common.{◌≡◌, inl, inr, refl, sym, ◌∙◌, ap, subst, ℕ, zero, suc, ◌+◌, ◌<◌, ◌≤◌, ◌==◌, ◌||◌, ◌++◌, min, nat_lt, Bool, true, false, if◌then◌else◌}
use Rattle.std.proofs.Common.{List, [], ◌∷◌, length, length-append, map, take, slice_get, Some, None, arith}
use Rattle.std.specs.List.{flat_map, range_with_len}
use Rattle.std.proofs.lemmas.Bool.Decides.{nat_tests}
use Rattle.std.proofs.lemmas.List.{length-take}
use Rattle.std.proofs.lemmas.Option.{same_Some}
use Rattle.fl_base.specs.declared.identity.EndId.{EndId}
use Rattle.fl_base.specs.declared.identity.Side.{Side}
use Rattle.fl_base.specs.declared.identity.Side.TheVariants.{Client, Server}
use Rattle.fl_base.specs.Ends.{peer, other}
use Rattle.fl_base.specs.Prefix.{IsPrefix}
use Rattle.fl_base.specs.Given.{given}
use Rattle.fl_value_data.specs.Value.{TheCall}
use Rattle.fl_hop.proofs.Lists.{within, map_same}
use Rattle.fl_model_laws.proofs.Small.{both_are}
use Rattle.fl_core.specs.View.{client_of, server_of, slot_of}
use Rattle.fl_model.specs.Laws.{waiting_at}
use Rattle.fl_model.specs.Sound.{Sound}
use Rattle.fl_model.specs.State.{State}
use Rattle.fl_core_run.specs.declared.run.RunEnd.{RunEnd}
use Rattle.fl_core_run.specs.EndProgress.{TheEndProgress}
use Rattle.fl_core_run.specs.Accepted.{count_waiting, accepted_of}
use Rattle.fl_core_run.proofs.Accepting.{all_accepted, none_wait}
use Rattle.fl_core.specs.Jobs.{calls_of_jobs}
use Rattle.fl_cores_file.specs.Jobs.{Job, own_calls, handed_in, has_rules, reply_to}
use Rattle.fl_cores_file.specs.Report.{BothEnds, TheReport, complete, turns_out, at_end, Honest}
use Rattle.fl_world_refines.specs.declared.binding.Binding.{Binding}
use Rattle.fl_world_refines.proofs.FramesBase.{same_some}
use Rattle.fl_core_run.specs.Ran.{is_unfinished}
use Rattle.fl_cores_jobs.specs.EndWork.{end_work_at, is_ruled, reply_by}
use Rattle.fl_cores_jobs.specs.State.{TheJoinedJobs, AreJoined}
use Rattle.fl_cores_jobs.specs.Whole.{request_in, AreBound, AreDue}
use Rattle.fl_cores_fork.specs.Runs.{TheFinishedCore}
use Rattle.fl_cores_laws.proofs.Prefixes.{then_on, as_same, of_flat}
use Rattle.fl_cores_laws.proofs.GivenWork.{calls_there, handed_ruled, handed_unruled, made_unruled}
use Rattle.fl_cores_fork.specs.Tells.{progress_left, handled_by, sent_by, handled_at, sent_at, waiting_left, made_at, both_at, refusal_in, refusal_at}
use Rattle.fl_cores_parts.specs.Begins.{ends_from, progress_by, progress_for, progresses_of}
use Rattle.fl_core_refines.specs.AloneTurns.{MachineProgress, MachineRun, progress_at, MachineTask, turned, is_clear, is_done_at, are_done, is_finished, counted, ran}
use Rattle.fl_core_refines.specs.AloneShown.{progress_of}
use Rattle.fl_core_refines.specs.AloneLaws.{end_of, EachProgress, IsClear, HasNoMore}
use Rattle.fl_core_refines.specs.AloneCalls.{CallProgress, CallRun, CallTask, post_at, turned as solo_turned, is_finished as solo_finished, counted as solo_counted, AreCalls, EachCalls, post_of}
use Rattle.fl_core_refines.specs.AloneCalls.{solo_of, span_of, GoesByCalls}
use Rattle.fl_core_refines.proofs.ByCalls.{go_by_calls}
use Rattle.fl_core_refines.proofs.Progress.{get_some}
use Rattle.fl_core_refines.proofs.Later.{later_nothing}
use Rattle.fl_cores.specs.OneCore.{both_ends, ends_in, post_for, span_in, made_at as made_there, handled_at as handled_there, ending_of, told_of}
use Rattle.fl_cores.proofs.CoresProgress.{at_slot, is_new, told_at}
use Rattle.fl_cores.proofs.CoresEnding.{in_plan}
use Rattle.fl_cores.proofs.OneJoined.{own, progress_is, post_is, all_ends, end_work_calls, posts_are, take_calls, same_replies}
use Rattle.fl_cores.proofs.OneKept.{turns_kept}
use Rattle.fl_cores.proofs.OneRan.{begins_with, work_in, OneRan}
use Rattle.fl_cores.proofs.OneSends.{Sends, CallsOrReplies, Begun, first_sends, turns_send, accepted_there}
use Rattle.fl_cores.proofs.OneWaiting.{waits_same, done_waits}

-- ---- lists

map_back : {X Y : Type 0} (f : X → Y) (xs : List X) (n : ℕ) (y : Y) → slice_get (map f xs) n ≡ Some y → (x : X) × (slice_get xs n ≡ Some x) × (f x ≡ y)
map_back f [] n y q = absurd (cc)
map_back f (x ∷ xs) zero y q = (x, refl, same_Some (f x) y q)
map_back f (x ∷ xs) (suc n) y q = map_back f xs n y q

in_range : (a n i x : ℕ) → slice_get (range_with_len a n) i ≡ Some x → x < a + n
in_range a zero i x q = absurd (cc)
in_range a (suc n) zero x q = let same : a ≡ x = same_Some a x q in omega (arith, same)
in_range a (suc n) (suc i) x q = let less = in_range (a + 1) n i x q in omega (arith, less)

each_progress : (P : MachineProgress → Type 0) (ds : List MachineProgress) → ((n : ℕ) (d : MachineProgress) → slice_get ds n ≡ Some d → P d) → EachProgress P ds
each_progress P [] h = tt
each_progress P (d ∷ ds) h = (h 0 d refl, each_progress P ds (λ n e q. h (suc n) e q))

first_long : {X : Type 0} (xs ys : List X) → IsPrefix xs ys → length xs ≤ length ys
first_long xs ys (rest, is) = let long : length ys ≡ length xs + length rest = ap (λ zs. length zs) is ∙ length-append xs rest in omega (arith, long)

same_number : (n m : ℕ) → (n == m) ≡ true → n ≡ m
same_number n m q = grind (arith, nat_tests, q)

-- ---- the end of a slot

other_twice : (s : Side) → other (other s) ≡ s
other_twice Client = refl
other_twice Server = refl

there_and_back : (e : EndId) → peer (peer e) ≡ e
there_and_back e = ap (λ (s : Side). let x : EndId = record { binding = e.binding; side = s } in x) (other_twice e.side)

slot_in : (n : ℕ) → (e : EndId) × (slot_of e ≡ n)
slot_in zero = (client_of 0, omega arith)
slot_in (suc zero) = (server_of 0, omega arith)
slot_in (suc (suc n)) = let (e, q) = slot_in n in (record { binding = e.binding + 1; side = e.side }, next e n q e.side refl)
  where
    next : (e : EndId) (m : ℕ) → slot_of e ≡ m → (s : Side) → e.side ≡ s → slot_of (record { binding = e.binding + 1; side = e.side }) ≡ suc (suc m)
    next e m q s r = omega (arith, q)

-- ---- what a whole core without anything left tells of each end

not_less : (k m : ℕ) → nat_lt k m ≡ false → m ≤ k
not_less k m r = grind (arith, nat_tests, r)

is_less : (k m : ℕ) → nat_lt k m ≡ true → k < m
is_less k m r = grind (arith, nat_tests, r)

all_at : (a : MachineRun) (ends : List EndId) (n i : ℕ) (e : EndId) → are_done a ends n ≡ true → i < n → slice_get ends i ≡ Some e → is_done_at a e ≡ true
all_at a ends zero i e h less q = absurd (omega (arith, less))
all_at a ends (suc n) i e h less q =
    let both = both_are (are_done a ends n) (given (slice_get ends n) true (is_done_at a)) h in
    by (nat_lt i n) refl both.1 (λ below. all_at a ends n i e both.0 below q)
  where
    by : (b : Bool) → nat_lt i n ≡ b → given (slice_get ends n) true (is_done_at a) ≡ true → (i < n → is_done_at a e ≡ true) → is_done_at a e ≡ true
    by true r here before = before (is_less i n r)
    by false r here before =
        let past = not_less i n r in
        let same : n ≡ i = omega (arith, less, past) in
        sym (ap (λ o. given o true (is_done_at a)) (subst (λ k. slice_get ends k ≡ Some e) (sym same) q)) ∙ here

-- ---- reports

pub same_report : (a b : TheReport) → a.made ≡ b.made → a.handled ≡ b.handled → a.refused ≡ b.refused → a.turns ≡ b.turns → a.ending ≡ b.ending → a ≡ b
same_report a b p q t u v =
    ap (λ x. record a { made = x }) p
    ∙ ap (λ x. record a { made = b.made; handled = x }) q
    ∙ ap (λ x. record a { made = b.made; handled = b.handled; refused = x }) t
    ∙ ap (λ x. record a { made = b.made; handled = b.handled; refused = b.refused; turns = x }) u
    ∙ ap (λ x. record b { ending = x }) v

module _ (jobs : List Job) (limit : ℕ) (r : TheReport) (s : State) (j : TheJoinedJobs) (set_up : List Binding) (joined : AreJoined 1 jobs j)
    (bound : AreBound set_up jobs j) (due : AreDue jobs j) (no_request : flat_map request_in jobs ≡ []) (honest : Honest jobs r) (sound : Sound s)
    (stands : s.may_set_cores ≡ false) (as_many : length j.bindings ≡ length s.bindings)
    (begun : (e : EndId) → e.binding < length j.bindings → Begun jobs s e) (one : OneRan j limit r s) where
  abbrev start : MachineRun
  start = begins_with j s

  abbrev work : MachineTask
  work = work_in j s

  -- as it was when its turns were counted, and in the end
  abbrev reached : MachineRun
  reached = ran work limit start

  abbrev last : MachineRun
  last = turned work one.went.more reached

  abbrev o : TheFinishedCore
  o = one.outcome

  -- ---- ends' progress

  start_at : (e : EndId) → e.binding < length j.bindings → slice_get start.progresses (slot_of e) ≡ Some (progress_of (progress_by true (end_work_at j.end_works e)))
  start_at e below =
      get_some progress_of (progresses_of 0 j) (slot_of e) (progress_for 0 j e) (at_slot 0 j e below)
      ∙ ap (λ d. Some (progress_of d)) (progress_is set_up jobs j joined bound due no_request e below)

  -- each end's progress at the start is that of an end
  record IsOf (n : ℕ) : Type 0 where
    pub end : EndId
    pub slot : slot_of end ≡ n
    pub below : end.binding < length j.bindings

  of_end : (n : ℕ) (d : MachineProgress) → slice_get start.progresses n ≡ Some d → IsOf n
  of_end n d q =
      let (e, slot) = slot_in n in
      let (t, at, same) = map_back progress_of (progresses_of 0 j) n d q in
      record { end = e; slot = slot; below = (is_new 0 j e t (subst (λ m. slice_get (progresses_of 0 j) m ≡ Some t) (sym slot) at)).below }

  each_calls : EachCalls j.jobs start.progresses
  each_calls n d q =
      let h = of_end n d q in
      let same : progress_of (progress_by true (end_work_at j.end_works h.end)) ≡ d
      = same_Some _ d (sym (start_at h.end h.below) ∙ ap (slice_get start.progresses) h.slot ∙ q) in
      subst (λ (x : MachineProgress). AreCalls j.jobs x.jobs) same (end_work_calls set_up jobs j joined bound due no_request h.end h.below)

  -- what turns leave of ends' progress
  kept : {A : Type 0} (g : MachineProgress → A) (more : (d : MachineProgress) → g (record d { done = d.done + 1 }) ≡ g d)
      → ((c : TheCall) (d : MachineProgress) → g (record d { handled = d.handled ++ c ∷ [] }) ≡ g d) → (m k n : ℕ) → (d : MachineProgress)
      → slice_get (turned work m (turned work k start)).progresses n ≡ Some d → (d0 : MachineProgress) × (slice_get start.progresses n ≡ Some d0) × (g d0 ≡ g d)
  kept g more handled m k n d q =
      let same : map g (turned work m (turned work k start)).progresses ≡ map g start.progresses
      = turns_kept g more handled work m (turned work k start) ∙ turns_kept g more handled work k start in
      map_back g start.progresses n (g d) (ap (λ xs. slice_get xs n) (sym same) ∙ get_some g (turned work m (turned work k start)).progresses n d q)

  record KeptAt (e : EndId) (d : MachineProgress) : Type 0 where
    pub jobs_are : d.jobs ≡ (end_work_at j.end_works e).jobs
    pub due_is : d.due ≡ (end_work_at j.end_works e).due
    pub refused : d.refused ≡ 0

  kept_at : (m k : ℕ) (e : EndId) (d : MachineProgress) → e.binding < length j.bindings → slice_get (turned work m (turned work k start)).progresses (slot_of e) ≡ Some d
      → KeptAt e d
  kept_at m k e d below q =
      let a = kept (λ x. x.jobs) (λ x. refl) (λ c x. refl) m k (slot_of e) d q in
      let b = kept (λ x. x.due) (λ x. refl) (λ c x. refl) m k (slot_of e) d q in
      let f = kept (λ x. x.refused) (λ x. refl) (λ c x. refl) m k (slot_of e) d q in
      record {
        jobs_are = sym a.2 ∙ ap (λ (x : MachineProgress). x.jobs) (same_Some a.0 _ (sym a.1 ∙ start_at e below));
        due_is = sym b.2 ∙ ap (λ (x : MachineProgress). x.due) (same_Some b.0 _ (sym b.1 ∙ start_at e below));
        refused = sym f.2 ∙ ap (λ (x : MachineProgress). x.refused) (same_Some f.0 _ (sym f.1 ∙ start_at e below));
      }

  end_of_progress : (m k n : ℕ) (d : MachineProgress) → slice_get (turned work m (turned work k start)).progresses n ≡ Some d → IsOf n
  end_of_progress m k n d q = let a = kept (λ x. x.jobs) (λ x. refl) (λ c x. refl) m k n d q in of_end n a.0 a.1

  -- ---- what the report tells of an end

  left_is : (e : EndId) → e.binding < length j.bindings → progress_left j (o ∷ []) e ≡ slice_get o.run.progresses (slot_of e)
  left_is e below =
      ap (λ c. given c None λ core. given (slice_get (o ∷ []) core) None λ (x : TheFinishedCore). slice_get x.run.progresses (slot_of e))
      (own set_up jobs j joined bound due no_request e below)

  peer_below : (e : EndId) → e.binding < length j.bindings → (peer e).binding < length j.bindings
  peer_below e below = below

  handled_first : (e : EndId) (d : TheEndProgress) → e.binding < length j.bindings → slice_get o.run.progresses (slot_of e) ≡ Some d
      → length (handled_by d) ≤ length (handed_in jobs (peer e))
  handled_first e d below q =
      let told : at_end r.handled e ≡ handled_by d
      = ap (λ (hs : List BothEnds). at_end hs e) one.tells.handled ∙ told_at j (handled_at j (o ∷ [])) e below
      ∙ ap (λ x. given x [] handled_by) (left_is e below ∙ q) in
      let long : length (handled_by d) ≡ length (at_end r.handled e) = ap (λ cs. length cs) (sym told) in
      let first = first_long (at_end r.handled e) (at_end r.made (peer e)) (honest.handled e) in
      let second = first_long (at_end r.made (peer e)) (handed_in jobs (peer e)) (honest.made (peer e)) in
      omega (arith, long, first, second)

  -- ---- turns that nobody counted changed no end's progress

  done_here : is_finished work reached ≡ true → (e : EndId) → e.binding < length j.bindings → is_done_at reached e ≡ true
  done_here done e below =
      let (i, at) = in_plan 0 e j.bindings (own set_up jobs j joined bound due no_request e below) in
      all_at reached (ends_from 0 0 j.bindings) (length (ends_from 0 0 j.bindings)) i e done (within (ends_from 0 0 j.bindings) i e at) at

  all_clear : is_finished work reached ≡ true → EachProgress IsClear reached.progresses
  all_clear done = each_progress IsClear reached.progresses (λ n d q.
      let h = end_of_progress 0 (counted work limit start) n d q in
      let clear = (both_are (is_clear (progress_at reached h.end)) _ (done_here done h.end h.below)).0 in
      sym (ap is_clear (ap (slice_get reached.progresses) h.slot ∙ q)) ∙ clear)

  none_more : EachProgress HasNoMore last.progresses
  none_more = each_progress HasNoMore last.progresses (λ n d q.
      let h = end_of_progress one.went.more (counted work limit start) n d q in
      let (t, at, same) = map_back progress_of o.run.progresses n d (ap (λ ds. slice_get ds n) (sym one.went.progresses) ∙ q) in
      let few = handled_first h.end t h.below (ap (slice_get o.run.progresses) h.slot ∙ at) in
      let here = kept_at one.went.more (counted work limit start) h.end d h.below (ap (slice_get last.progresses) h.slot ∙ q) in
      let due_there : (end_work_at j.end_works h.end).due ≡ length (handed_in jobs (peer h.end)) = due.due h.end h.below in
      let due_here = here.due_is in
      let long : length d.handled ≡ length (handled_by t) = ap (λ (x : MachineProgress). length x.handled) (sym same) in
      omega (arith, few, due_there, due_here, long))

  same_progresses : last.progresses ≡ reached.progresses
  same_progresses = by (is_finished work reached) refl
    where
      by : (b : Bool) → is_finished work reached ≡ b → last.progresses ≡ reached.progresses
      by true q = later_nothing work reached one.went.more (all_clear q) none_more
      by false q = ap (λ n. MachineRun.progresses (turned work n reached)) (one.went.none_more q)

  reached_progresses : reached.progresses ≡ map progress_of o.run.progresses
  reached_progresses = sym same_progresses ∙ one.went.progresses

  -- ---- by calls

  abbrev pub solo : CallRun
  solo = record { state = s; posts = map (post_for jobs) (ends_in s) }

  abbrev pub turns : ℕ
  turns = solo_counted (span_in s) limit solo

  abbrev pub comes : CallRun
  comes = solo_turned (span_in s) turns solo

  span_same : span_of work ≡ span_in s
  span_same =
      ap (λ es. let p : CallTask = record { ends = es; dispatchers = work.dispatchers } in p)
      (all_ends set_up jobs j joined bound due no_request ∙ ap (λ n. flat_map both_ends (range_with_len 0 n)) as_many)

  solo_same : solo_of j.jobs start ≡ solo
  solo_same =
      ap (λ ps. let b : CallRun = record { state = s; posts = ps } in b)
      (posts_are set_up jobs j joined bound due no_request ∙ ap (λ n. map (post_for jobs) (flat_map both_ends (range_with_len 0 n))) as_many)

  by_calls : GoesByCalls work start
  by_calls = go_by_calls work start sound stands each_calls

  turns_are : counted work limit start ≡ turns
  turns_are = by_calls.number limit ∙ ap (λ p. solo_counted p limit (solo_of j.jobs start)) span_same ∙ ap (solo_counted (span_in s) limit) solo_same

  comes_are : solo_of j.jobs reached ≡ comes
  comes_are =
      by_calls.turns (counted work limit start)
      ∙ ap (λ p. solo_turned p (counted work limit start) (solo_of j.jobs start)) span_same
      ∙ ap (solo_turned (span_in s) (counted work limit start)) solo_same
      ∙ ap (λ n. solo_turned (span_in s) n solo) turns_are

  left_same : is_finished work reached ≡ solo_finished (span_in s) comes
  left_same =
      by_calls.left (counted work limit start)
      ∙ ap (solo_finished (span_of work)) (sym (by_calls.turns (counted work limit start)) ∙ comes_are)
      ∙ ap (λ p. solo_finished p comes) span_same

  -- ---- what is told

  -- an end's progress in the end, and the post that it comes to
  record Ended (e : EndId) : Type 0 where
    pub progress : TheEndProgress
    pub progress_is : progress_left j (o ∷ []) e ≡ Some progress
    pub kept : KeptAt e (progress_of progress)
    pub post_is : post_at comes e ≡ Some (post_of j.jobs (progress_of progress))

  -- there is an end's progress for each end
  progress_there : (e : EndId) → e.binding < length j.bindings → (d : MachineProgress) × (slice_get reached.progresses (slot_of e) ≡ Some d)
  progress_there e below =
      let same : map (λ (x : MachineProgress). x.refused) reached.progresses ≡ map (λ (x : MachineProgress). x.refused) start.progresses
      = turns_kept (λ x. x.refused) (λ x. refl) (λ c x. refl) work (counted work limit start) start in
      let there = get_some (λ (x : MachineProgress). x.refused) start.progresses (slot_of e) _ (start_at e below) in
      let (d, at, is) = map_back (λ (x : MachineProgress). x.refused) reached.progresses (slot_of e) _ (ap (λ xs. slice_get xs (slot_of e)) same ∙ there) in
      (d, at)

  ended : (e : EndId) → e.binding < length j.bindings → Ended e
  ended e below =
      let (d, at) = progress_there e below in
      let (t, there, same) = map_back progress_of o.run.progresses (slot_of e) d (ap (λ ds. slice_get ds (slot_of e)) (sym reached_progresses) ∙ at) in
      record {
        progress = t;
        progress_is = left_is e below ∙ there;
        kept = subst (KeptAt e) (sym same) (kept_at 0 (counted work limit start) e d below at);
        post_is = ap (λ (b : CallRun). post_at b e) (sym comes_are) ∙ get_some (post_of j.jobs) reached.progresses (slot_of e) d at
            ∙ ap (λ (x : MachineProgress). Some (post_of j.jobs x)) (sym same);
      }

  handled_same : (e : EndId) → e.binding < length j.bindings → handled_at j (o ∷ []) e ≡ handled_there comes e
  handled_same e below =
      let h = ended e below in
      ap (λ x. given x [] handled_by) h.progress_is ∙ sym (ap (λ x. given x [] λ (p : CallProgress). p.handled) h.post_is)

  -- what an end came to send, by its end's progress
  sent_same : (e : EndId) (below : e.binding < length j.bindings) → sent_at j (o ∷ []) e ≡ sent_by j.jobs (end_work_at j.end_works e) (ended e below).progress
  sent_same e below = ap (λ x. given x [] (sent_by j.jobs (end_work_at j.end_works e))) (ended e below).progress_is

  abbrev comes_to_send : EndId → CallProgress → List TheCall
  comes_to_send e p = take p.made p.calls ++ flat_map (reply_to jobs e) p.handled

  sent_there : (e : EndId) (below : e.binding < length j.bindings)
      → sent_by j.jobs (end_work_at j.end_works e) (ended e below).progress ≡ comes_to_send e (post_of j.jobs (progress_of (ended e below).progress))
  sent_there e below =
      let h = ended e below in
      let end_work = end_work_at j.end_works e in
      ap (λ cs. cs ++ flat_map (reply_by end_work.rules) (handled_by h.progress))
      (sym (take_calls j.jobs end_work.jobs h.progress.done (end_work_calls set_up jobs j joined bound due no_request e below))
      ∙ ap (λ ps. take h.progress.done (calls_of_jobs j.jobs ps)) (sym h.kept.jobs_are))
      ∙ ap (λ cs. take h.progress.done (calls_of_jobs j.jobs h.progress.jobs) ++ cs) (same_replies jobs e end_work (handled_by h.progress) (joined.each e).asked)

  -- as many replies wait as at the machine's end, of which none is told where nothing was left to do
  waits_last : (e : EndId) → e.binding < length j.bindings → waiting_left j (o ∷ []) e ≡ length (waiting_at last.state e)
  waits_last e below =
      ap (λ c. given c 0 λ core. given (slice_get (o ∷ []) core) 0 λ (x : TheFinishedCore). count_waiting x.run e)
      (own set_up jobs j joined bound due no_request e below)
      ∙ waits_same one.went.world o.run last e one.went.shows

  handled_told : (e : EndId) (below : e.binding < length j.bindings) → at_end r.handled e ≡ handled_by (ended e below).progress
  handled_told e below =
      ap (λ (hs : List BothEnds). at_end hs e) one.tells.handled ∙ told_at j (handled_at j (o ∷ [])) e below
      ∙ ap (λ x. given x [] handled_by) (ended e below).progress_is

  -- not more was sent than is handed in
  done_few : (e : EndId) (below : e.binding < length j.bindings)
      → length (calls_of_jobs j.jobs (take (ended e below).progress.done (end_work_at j.end_works e).jobs)) ≤ length (own_calls jobs e)
  done_few e below =
      let end_work = end_work_at j.end_works e in
      let n = (ended e below).progress.done in
      let calls = calls_of_jobs j.jobs end_work.jobs in
      let first : length (take n calls) ≡ length (calls_of_jobs j.jobs (take n end_work.jobs))
      = ap (λ (cs : List TheCall). length cs) (take_calls j.jobs end_work.jobs n (end_work_calls set_up jobs j joined bound due no_request e below)) in
      let long : length (take n calls) ≡ min n (length calls) = length-take n calls in
      let all : length calls ≡ length (own_calls jobs e) = ap (λ (cs : List TheCall). length cs) (calls_there jobs j.jobs e end_work (joined.each e)) in
      omega (arith, first, long, all)

  sent_few : (e : EndId) (below : e.binding < length j.bindings) → (b : Bool) → is_ruled (end_work_at j.end_works e) ≡ b
      → length (sent_by j.jobs (end_work_at j.end_works e) (ended e below).progress) ≤ length (handed_in jobs e)
  sent_few e below false q =
      let end_work = end_work_at j.end_works e in
      let t = (ended e below).progress in
      let few = done_few e below in
      let sent : length (sent_by j.jobs end_work t) ≡ length (calls_of_jobs j.jobs (take t.done end_work.jobs))
      = ap (λ (cs : List TheCall). length cs) (made_unruled end_work (calls_of_jobs j.jobs (take t.done end_work.jobs)) (handled_by t) q) in
      let all : length (own_calls jobs e) ≡ length (handed_in jobs e)
      = ap (λ (cs : List TheCall). length cs) (handed_unruled jobs j.jobs e end_work (joined.each e) q) in
      omega (arith, few, sent, all)
  sent_few e below true q =
      let end_work = end_work_at j.end_works e in
      let across = end_work_at j.end_works (peer e) in
      let t = (ended e below).progress in
      let asked = (joined.each e).asked in
      let none : is_ruled across ≡ false = (joined.each (peer e)).asked.ruled ∙ asked.one_side (sym asked.ruled ∙ q) in
      let handled : IsPrefix (handled_by t) (own_calls jobs (peer e))
      = as_same (at_end r.handled e) (handled_by t) (handed_in jobs (peer e)) (own_calls jobs (peer e)) (handled_told e below)
      (sym (handed_unruled jobs j.jobs (peer e) across (joined.each (peer e)) none))
      (then_on (at_end r.handled e) (at_end r.made (peer e)) (handed_in jobs (peer e)) (honest.handled e) (honest.made (peer e))) in
      let replies = first_long (flat_map (reply_by end_work.rules) (handled_by t)) (flat_map (reply_by end_work.rules) (own_calls jobs (peer e)))
      (of_flat (reply_by end_work.rules) (handled_by t) (own_calls jobs (peer e)) handled) in
      let all : length (flat_map (reply_by end_work.rules) (own_calls jobs (peer e))) ≡ length (handed_in jobs e)
      = ap (λ (cs : List TheCall). length cs) (handed_ruled jobs j.jobs e end_work (joined.each e) q) in
      let few = done_few e below in
      let no_calls : length (own_calls jobs e) ≡ 0 = ap (λ (cs : List TheCall). length cs) (asked.alone (sym asked.ruled ∙ q)) in
      let sent = length-append (calls_of_jobs j.jobs (take t.done end_work.jobs)) (flat_map (reply_by end_work.rules) (handled_by t)) in
      omega (arith, replies, all, few, no_calls, sent)

  -- where nothing is left to do, as many were handled as are handed in at the other end
  handled_all : is_finished work reached ≡ true → (e : EndId) → e.binding < length j.bindings → length (at_end r.handled e) ≡ length (handed_in jobs (peer e))
  handled_all done e below =
      let h = ended e below in
      let there : slice_get o.run.progresses (slot_of e) ≡ Some h.progress = sym (left_is e below) ∙ h.progress_is in
      let at : progress_at reached e ≡ Some (progress_of h.progress)
      = ap (λ ds. slice_get ds (slot_of e)) reached_progresses ∙ get_some progress_of o.run.progresses (slot_of e) h.progress there in
      let clear = (both_are (is_clear (progress_at reached e)) _ (done_here done e below)).0 in
      let count = (both_are (h.progress.done == length h.progress.jobs) (length (handled_by h.progress) == h.progress.due) (sym (ap is_clear at) ∙ clear)).1 in
      ap (λ (cs : List TheCall). length cs) (handled_told e below)
      ∙ same_number (length (handled_by h.progress)) h.progress.due count ∙ h.kept.due_is ∙ due.due e below

  -- and so all that was sent was accepted
  all_made : is_finished work reached ≡ true → (e : EndId) (below : e.binding < length j.bindings)
      → made_at j (o ∷ []) e ≡ sent_by j.jobs (end_work_at j.end_works e) (ended e below).progress
  all_made done e below =
      let waiting = waiting_left j (o ∷ []) e in
      let sent = sent_by j.jobs (end_work_at j.end_works e) (ended e below).progress in
      let made : made_at j (o ∷ []) e ≡ accepted_of waiting sent = ap (accepted_of waiting) (sent_same e below) in
      let told : length (at_end r.made e) ≡ length (accepted_of waiting sent)
      = ap (λ (cs : List TheCall). length cs) (ap (λ (ms : List BothEnds). at_end ms e) one.tells.made ∙ told_at j (made_at j (o ∷ [])) e below ∙ made) in
      let all = handled_all done (peer e) below in
      let first = first_long (at_end r.handled (peer e)) (at_end r.made (peer (peer e))) (honest.handled (peer e)) in
      let back = ap (λ (f : EndId). length (handed_in jobs f)) (there_and_back e) in
      let back_made = ap (λ (f : EndId). length (at_end r.made f)) (there_and_back e) in
      let few = sent_few e below (is_ruled (end_work_at j.end_works e)) refl in
      made ∙ all_accepted waiting sent (omega (arith, told, all, first, back, back_made, few))

  accepted_same : (e : EndId) (below : e.binding < length j.bindings)
      → made_at j (o ∷ []) e ≡ accepted_of (length (waiting_at reached.state e)) (sent_by j.jobs (end_work_at j.end_works e) (ended e below).progress)
  accepted_same e below = by (is_finished work reached) refl
    where
      by : (b : Bool) → is_finished work reached ≡ b
          → made_at j (o ∷ []) e ≡ accepted_of (length (waiting_at reached.state e)) (sent_by j.jobs (end_work_at j.end_works e) (ended e below).progress)
      by true q =
          let sent = sent_by j.jobs (end_work_at j.end_works e) (ended e below).progress in
          all_made q e below ∙ sym (none_wait sent)
          ∙ ap (λ (calls : List TheCall). accepted_of (length calls) sent)
          (sym (done_waits one.went.world one.went.point reached e one.went.shown (done_here q e below)))
      by false q =
          let sent = sent_by j.jobs (end_work_at j.end_works e) (ended e below).progress in
          ap (accepted_of (waiting_left j (o ∷ []) e)) (sent_same e below)
          ∙ ap (λ n. accepted_of n sent)
          (waits_last e below ∙ ap (λ n. length (waiting_at (MachineRun.state (turned work n reached)) e)) (one.went.none_more q))

  -- and these are what the machine accepted
  kind_of : (e : EndId) (b : Bool) → has_rules jobs e ≡ b → CallsOrReplies jobs e
  kind_of e true q = inl ((joined.each e).asked.alone q)
  kind_of e false q =
      inr (λ calls.
      sym (same_replies jobs e (end_work_at j.end_works e) calls (joined.each e).asked)
      ∙ made_unruled (end_work_at j.end_works e) [] calls ((joined.each e).asked.ruled ∙ q))

  first_post : (e : EndId) → e.binding < length j.bindings → post_at solo e ≡ Some (post_for jobs e)
  first_post e below =
      ap (λ (b : CallRun). post_at b e) (sym solo_same)
      ∙ get_some (post_of j.jobs) start.progresses (slot_of e) (progress_of (progress_for 0 j e))
      (get_some progress_of (progresses_of 0 j) (slot_of e) (progress_for 0 j e) (at_slot 0 j e below))
      ∙ ap (λ (p : CallProgress). Some p) (post_is set_up jobs j joined bound due no_request e below)

  sends : (e : EndId) → e.binding < length j.bindings → Sends jobs e comes
  sends e below =
      turns_send jobs e (kind_of e (has_rules jobs e) refl) (span_in s) turns solo (first_sends jobs e solo sound (begun e below) (first_post e below))

  accepted_all : (e : EndId) → e.binding < length j.bindings → (p : CallProgress) → post_at comes e ≡ Some p
      → accepted_of (length (waiting_at comes.state e)) (comes_to_send e p) ≡ made_there comes e
  accepted_all e below p is =
      let h = sends e below in
      let same : p ≡ h.post = same_some (post_at comes e) p h.post is h.post_is in
      ap (λ (y : CallProgress). accepted_of (length (waiting_at comes.state e)) (comes_to_send e y)) same ∙ accepted_there jobs e comes h

  made_same : (e : EndId) → e.binding < length j.bindings → made_at j (o ∷ []) e ≡ made_there comes e
  made_same e below =
      accepted_same e below
      ∙ ap (accepted_of (length (waiting_at reached.state e))) (sent_there e below)
      ∙ ap (λ (b : CallRun). accepted_of (length (waiting_at b.state e)) (comes_to_send e (post_of j.jobs (progress_of (ended e below).progress)))) comes_are
      ∙ accepted_all e below (post_of j.jobs (progress_of (ended e below).progress)) (ended e below).post_is

  not_refused : (n : ℕ) → n < length j.bindings → refusal_at j (o ∷ []) n ≡ None
  not_refused n below =
      let h = ended (client_of n) below in
      ap (λ x. given x None refusal_in) h.progress_is ∙ ap (λ k. if k == 0 then None else Some k) h.kept.refused

  both_same : (f g : EndId → List TheCall) → ((e : EndId) → e.binding < length j.bindings → f e ≡ g e)
      → map (both_at f) (range_with_len 0 (length j.bindings)) ≡ map (both_at g) (range_with_len 0 (length s.bindings))
  both_same f g same =
      map_same (both_at f) (both_at g) (range_with_len 0 (length j.bindings)) (λ i n q.
      let below : n < length j.bindings = let less = in_range 0 (length j.bindings) i n q in omega (arith, less) in
      ap (λ cs. let b : BothEnds = record { client = cs; server = f (server_of n) } in b) (same (client_of n) below)
      ∙ ap (λ cs. let b : BothEnds = record { client = g (client_of n); server = cs } in b) (same (server_of n) below))
      ∙ ap (λ m. map (both_at g) (range_with_len 0 m)) as_many

  ending_is : (b : Bool) (end : RunEnd) → end ≡ end_of b → (if is_unfinished end || false then turns_out else complete) ≡ ending_of b
  ending_is true end q = ap (λ e. if is_unfinished e || false then turns_out else complete) q
  ending_is false end q = ap (λ e. if is_unfinished e || false then turns_out else complete) q

  pub told : r ≡ told_of (span_in s) (length s.bindings) turns comes
  told =
      same_report r (told_of (span_in s) (length s.bindings) turns comes)
      (one.tells.made ∙ both_same (made_at j (o ∷ [])) (made_there comes) made_same)
      (one.tells.handled ∙ both_same (handled_at j (o ∷ [])) (handled_there comes) handled_same)
      (one.tells.refused
      ∙ map_same (refusal_at j (o ∷ [])) (λ n. None) (range_with_len 0 (length j.bindings))
      (λ i n q. not_refused n (let less = in_range 0 (length j.bindings) i n q in omega (arith, less)))
      ∙ ap (λ m. map (λ n. None) (range_with_len 0 m)) as_many)
      (one.tells.turns ∙ ap (λ n. n ∷ []) (one.went.turns ∙ turns_are))
      (one.tells.ending ∙ ending_is (is_finished work reached) o.part.end one.went.end ∙ ap ending_of left_same)
