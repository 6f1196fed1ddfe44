-- No dispatcher handled more calls than its core took turns.
use Rattle.std.proofs.Common.{◌≡◌, ◌≢◌, refl, sym, ap, ◌∙◌, subst, ℕ, ◌+◌, ◌≤◌, ◌==◌, inl, inr, if◌then◌else◌, List, [], ◌∷◌, ◌++◌, length, slice_get, Option, Some, None, IsSome, Bool, true, false, Result, Ok, Err, arith}
use Rattle.std.proofs.lemmas.Bool.Decides.{nat_tests}
use Rattle.std.proofs.lemmas.List.{length-append}
use Rattle.std.proofs.lemmas.Option.{same_Some}
use Rattle.fl_base.specs.declared.identity.EndId.{EndId}
use Rattle.fl_base.specs.Ends.{peer}
use Rattle.fl_base.specs.Given.{given}
use Rattle.fl_ring.specs.SharedSides.{TheSide}
use Rattle.fl_value_data.specs.declared.value.Call.{Call}
use Rattle.fl_waitset.specs.declared.fault.WaitFault.{WaitFault}
use Rattle.fl_waitset.specs.declared.waitset.Pick.{Pick}
use Rattle.fl_waitset.specs.Waiting.{next_pick}
use Rattle.fl_core.specs.declared.turn_answer.TurnAnswer.{TurnAnswer}
use Rattle.fl_core.specs.declared.turn_answer.TurnAnswer.TheVariants as turn
use Rattle.fl_core.specs.BoardView.{TheDispatcher, TheEndAtChannel, TheBoard, channel_of, end_picked, due_in, due}
use Rattle.fl_core.specs.BoardSound.{IsBoard}
use Rattle.fl_hop.specs.Stretch.{same_end}
use Rattle.fl_core.specs.View.{place_of}
use Rattle.fl_core.specs.declared.wiring.Inlet.{Inlet}
use Rattle.fl_core.specs.declared.core_job.CoreJob.{CoreJob}
use Rattle.fl_core_run.specs.declared.run.RunEnd.{RunEnd}
use Rattle.fl_core_run.specs.declared.run.RunEnd.TheVariants.{Finished, Unfinished, Told}
use Rattle.fl_core_run.specs.EndProgress.{TheEndProgress, progress_place}
use Rattle.fl_core_run.specs.Run.{TheRun}
use Rattle.fl_core_run.specs.LogEntries.{LogEntry, looked, passed, arrived, heard, said, told, opened, called, ruled, wrote, acked, turned, Happens}
use Rattle.fl_core_run.specs.Ran.{task, GoesOn}
use Rattle.fl_core_run_laws.specs.Logs.{Goes, InPlace, handled_by, handles_in, handles, call_in, handled_in, handled_at, in_progress, handled_of, Logged, TurnsAreLogged, ProgressTellHandled, CountedAreTurns}
use Rattle.fl_core_run_laws.proofs.Handling.{one_end}
use Rattle.fl_core_run_laws.proofs.Stepping.{end_stays}
use Rattle.fl_core_run_laws.proofs.Aside.{core_aside}
use Rattle.fl_cores_file.specs.Jobs.{Job, handed_in}
use Rattle.fl_cores_file.specs.Report.{TheReport, at_end}
use Rattle.fl_cores_jobs.specs.State.{TheJoinedJobs}
use Rattle.fl_cores_jobs.specs.Joined.{core_at}
use Rattle.fl_cores_laws.specs.EndedCores.{shared_ways, OneCore}
use Rattle.fl_cores_laws.specs.EndedBegins.{HasProgress, Ran}
use Rattle.fl_cores_laws.specs.Complete.{Knows, IsFirst}
use Rattle.fl_cores_laws.specs.Few.{IsAt, EndsStay, IsOther, AreEnds, handled_at_all, UnfinishedHandleFew, AreFirst, DispatchersHandleFew}
use Rattle.fl_cores_laws.proofs.EndedProgress.{no_longer}
use Rattle.fl_cores_laws.proofs.Seats.{does_keep}
use Rattle.fl_cores_laws.proofs.Ended.{to_point, to_finish}
use Rattle.fl_cores_laws.proofs.Complete.{told_count, all_or_refused}

-- ---- ends stay with their dispatchers

abbrev pub Settled : TheRun TheSide → TheRun TheSide → Type 0
Settled s t = (e : EndId) (place : ℕ) (seat : TheEndAtChannel) → place_of s.core e ≡ Some place → slice_get s.core.board.seats place ≡ Some seat
    → (after : TheEndAtChannel) × (place_of t.core e ≡ Some place) × (slice_get t.core.board.seats place ≡ Some after) × (after.dispatcher ≡ seat.dispatcher)

settled_then : (s m t : TheRun TheSide) → Settled s m → Settled m t → Settled s t
settled_then s m t f g e place seat at there =
    let (a, at2, there2, one) = f e place seat at there in
    let (b, at3, there3, two) = g e place a at2 there2 in
    (b, at3, there3, two ∙ one)

settled_by : (jobs : List CoreJob) (log_entry : LogEntry) (s t : TheRun TheSide) → Happens shared_ways log_entry s t → InPlace jobs s log_entry → Settled s t
settled_by jobs log_entry s t h by e place seat at there =
    let (after, stands, same) = (does_keep shared_ways log_entry s h.0 h.1).seats place seat there in
    (after, end_stays shared_ways jobs log_entry s t e place h by at, ap (λ k. slice_get k.board.seats place) (core_aside h.0 t log_entry h.2) ∙ stands, same)

pub settles : (jobs : List CoreJob) (log : List LogEntry) (s t : TheRun TheSide) → Goes shared_ways jobs s log t → Settled s t
settles jobs [] s t same = λ e place seat at there.
    (seat, ap (λ (x : TheRun TheSide). place_of x.core e) same ∙ at, ap (λ (x : TheRun TheSide). slice_get x.core.board.seats place) same ∙ there, refl)
settles jobs (log_entry ∷ log) s t h = settled_then s h.0 t (settled_by jobs log_entry s h.0 h.1 h.2) (settles jobs log h.0 t h.3)

is_at_before : (s t : TheRun TheSide) (d : ℕ) (e : EndId) → Settled s t → IsAt t d e → IsAt s d e
is_at_before s t d e settled is place seat at there =
    let (after, at2, there2, same) = settled e place seat at there in
    sym same ∙ is place after at2 there2

-- ---- the end that is due sits at the dispatcher that has the turn

module _ (b : TheBoard) (sound : IsBoard b) (n p : ℕ) where
  abbrev SitsHere : Type 0
  SitsHere = (seat : TheEndAtChannel) × (slice_get b.seats p ≡ Some seat) × (seat.dispatcher ≡ n)

  by_pick : (x : TheDispatcher) → slice_get b.dispatchers n ≡ Some x → (r : Result Pick WaitFault) → end_picked x.ends r ≡ Some p → SitsHere
  by_pick x there (Ok pick) is = let channel = (sound.dispatchers n x there).ends (channel_of pick) p is in (channel.seat, channel.seat_is, channel.dispatcher_is)
  by_pick x there (Err fault) is = absurd (cc)

  by_dispatcher : (o : Option TheDispatcher) → slice_get b.dispatchers n ≡ o → due_in o ≡ Some p → SitsHere
  by_dispatcher None there is = absurd (cc)
  by_dispatcher (Some x) there is = by_pick x there (next_pick x.lists) is

  due_sits : due b n ≡ Some p → SitsHere
  due_sits is = by_dispatcher (slice_get b.dispatchers n) refl is

-- ---- sums

abbrev total : (EndId → ℕ) → List EndId → ℕ
total f [] = 0
total f (e ∷ ends) = f e + total f ends

total_sum : (f g h : EndId → ℕ) → ((e : EndId) → h e ≡ f e + g e) → (ends : List EndId) → total h ends ≡ total f ends + total g ends
total_sum f g h sum [] = omega arith
total_sum f g h sum (e ∷ ends) = let here = sum e in let rest = total_sum f g h sum ends in omega (arith, here, rest)

total_none : (f : EndId → ℕ) → ((e : EndId) → f e ≡ 0) → (ends : List EndId) → total f ends ≡ 0
total_none f none [] = refl
total_none f none (e ∷ ends) = let here = none e in let rest = total_none f none ends in omega (arith, here, rest)

module _ (j : TheJoinedJobs) (n : ℕ) (c : OneCore) (d : ℕ) where
  -- ---- one event

  abbrev count_in : LogEntry → EndId → ℕ
  count_in log_entry e = length (handled_in e log_entry)

  others_none : (place : ℕ) (name e : EndId) (from : Inlet) (answer : TurnAnswer) → name ≡ e → (ends : List EndId) → IsOther e ends
      → total (count_in (turned place name from answer)) ends ≡ 0
  others_none place name e from answer same [] other = refl
  others_none place name e from answer same (f ∷ ends) other =
      let not_this : same_end name f ≡ false = ap (λ x. same_end x f) same ∙ other.0 in
      let here : length (if same_end name f then call_in answer else []) ≡ 0 = ap (λ (b : Bool). length (if b then call_in answer else [])) not_this in
      let rest = others_none place name e from answer same ends other.1 in omega (arith, here, rest)

  one_call : (answer : TurnAnswer) → length (call_in answer) ≤ handled_by 1 answer
  one_call (turn.Handle call) = omega arith
  one_call turn.Part = omega arith
  one_call turn.Ready = omega arith
  one_call turn.Quiet = omega arith
  one_call turn.Full = omega arith
  one_call turn.Nothing = omega arith
  one_call (turn.Refused fault) = omega arith

  counts : (place : ℕ) (answer : TurnAnswer) → place ≡ d → handled_by 1 answer ≡ (if place == d then handled_by 1 answer else 0)
  counts place answer same = counts_by (place == d) (grind (arith, nat_tests, same))
    where
      counts_by : (b : Bool) → b ≡ true → handled_by 1 answer ≡ (if b then handled_by 1 answer else 0)
      counts_by true is = refl
      counts_by false is = absurd (cc)

  module _ (s : TheRun TheSide) (place : ℕ) (name : EndId) (from : Inlet) (answer : TurnAnswer) (p : ℕ) (at : place_of s.core name ≡ Some p)
      (sits : (seat : TheEndAtChannel) × (slice_get s.core.board.seats p ≡ Some seat) × (seat.dispatcher ≡ place)) (settled : Settled s c.finish) where
    turn_by : (e : EndId) (ends : List EndId) → IsAt c.finish d e → IsOther e ends
        → total (count_in (turned place name from answer)) ends ≤ handles_in d (turned place name from answer) → (b : Bool) → same_end name e ≡ b
        → length (if b then call_in answer else []) + total (count_in (turned place name from answer)) ends ≤ handles_in d (turned place name from answer)
    turn_by e ends is other rest true same =
        let eq : name ≡ e = one_end name e same in
        let here : place_of s.core e ≡ Some p = subst (λ (x : EndId). place_of s.core x ≡ Some p) eq at in
        let own : place ≡ d = sym sits.2 ∙ is_at_before s c.finish d e settled is p sits.0 here sits.1 in
        let none = others_none place name e from answer eq ends other in
        let one = one_call answer in
        let all = counts place answer own in
        omega (arith, none, one, all)
    turn_by e ends is other rest false same = omega (arith, rest)

    turn_few : (ends : List EndId) → AreEnds j n c d ends → total (count_in (turned place name from answer)) ends ≤ handles_in d (turned place name from answer)
    turn_few [] are = omega arith
    turn_few (e ∷ ends) are = turn_by e ends are.1 are.2 (turn_few ends are.3) (same_end name e) refl

  module _ (ends : List EndId) (are : AreEnds j n c d ends) where
    nobody : (log_entry : LogEntry) → ((e : EndId) → handled_in e log_entry ≡ []) → total (count_in log_entry) ends ≤ handles_in d log_entry
    nobody log_entry none = let zero_of = total_none (count_in log_entry) (λ e. ap length (none e)) ends in omega (arith, zero_of)

    log_entry_few : (log_entry : LogEntry) (s t : TheRun TheSide) → Happens shared_ways log_entry s t → Settled s c.finish → total (count_in log_entry) ends ≤ handles_in d log_entry
    log_entry_few (looked k l answer) s t h settled = nobody (looked k l answer) (λ e. refl)
    log_entry_few (passed k m frag c2 outcome) s t h settled = nobody (passed k m frag c2 outcome) (λ e. refl)
    log_entry_few (arrived k l frag e answer) s t h settled = nobody (arrived k l frag e answer) (λ f. refl)
    log_entry_few (heard k l frag answer) s t h settled = nobody (heard k l frag answer) (λ e. refl)
    log_entry_few (said k l answer) s t h settled = nobody (said k l answer) (λ e. refl)
    log_entry_few (told k l answer) s t h settled = nobody (told k l answer) (λ e. refl)
    log_entry_few (opened e request answer) s t h settled = nobody (opened e request answer) (λ f. refl)
    log_entry_few (called e call answer) s t h settled = nobody (called e call answer) (λ f. refl)
    log_entry_few (ruled e msg reply answer) s t h settled = nobody (ruled e msg reply answer) (λ f. refl)
    log_entry_few (wrote e out answer) s t h settled = nobody (wrote e out answer) (λ f. refl)
    log_entry_few (acked e k answer) s t h settled = nobody (acked e k answer) (λ f. refl)
    log_entry_few (turned place name from answer) s t h settled =
        turn_few s place name from answer h.1.0 h.1.1 (due_sits s.core.board h.3.board place h.1.0 h.1.2) settled ends are

    -- ---- a log

    abbrev count_at : List LogEntry → EndId → ℕ
    count_at log e = length (handled_at e log)

    log_few : (jobs : List CoreJob) (log : List LogEntry) (s t : TheRun TheSide) → Goes shared_ways jobs s log t → Settled t c.finish → total (count_at log) ends ≤ handles d log
    log_few jobs [] s t h settled = let none = total_none (count_at []) (λ e. refl) ends in omega (arith, none)
    log_few jobs (log_entry ∷ log) s t h settled =
        let whole = settled_then s t c.finish (settles jobs (log_entry ∷ log) s t h) settled in
        let here = log_entry_few log_entry s h.0 h.1 whole in
        let rest = log_few jobs log h.0 t h.3 settled in
        let sum = total_sum (count_in log_entry) (count_at log) (count_at (log_entry ∷ log)) (λ e. length-append (handled_in e log_entry) (handled_at e log)) ends in
        omega (arith, here, rest, sum)

-- ---- a whole run

none_there : (o : Option ℕ) (progresses : List TheEndProgress) (progress : TheEndProgress) → given o None (λ n. slice_get progresses n) ≡ Some progress
    → (given o [] (λ n. in_progress (slice_get progresses n)) ≡ progress.handled) × IsSome o
none_there None progresses progress is = absurd (cc)
none_there (Some n) progresses progress is = (ap in_progress is, refl)

module _ (logged : TurnsAreLogged shared_ways) (tell : ProgressTellHandled shared_ways) (turns : CountedAreTurns shared_ways)
    (asked : List Job) (j : TheJoinedJobs) (limit : ℕ) (cores : List OneCore) (r : TheReport) (ran : Ran asked j limit cores r)
    (n : ℕ) (c : OneCore) (at : slice_get cores n ≡ Some c) where
  abbrev counted_log : Logged shared_ways j.jobs (λ d. c.part.turns) c.begin.run c.point.run
  counted_log = logged c.plan j.jobs c.part.turns c.begin.run c.point.run (turns (task c.plan j.jobs limit) c.begin c.point c.part (ran.went n c at).counted)

  -- what an end handled by the point is in the log up to it
  by_point : (e : EndId) → core_at j.bindings e ≡ Some n → length (handled_of c.point.run e) ≡ length (handled_at e counted_log.log)
  by_point e own =
      let progress : HasProgress j c e = (ran.begins n c at).progresses e own in
      let start = none_there (progress_place c.begin.run.progresses e) c.begin.run.progresses progress.progress progress.progress_is in
      ap length (tell j.jobs c.begin.run c.point.run counted_log.log e start.1 counted_log.goes
      ∙ ap (λ (calls : List Call). calls ++ handled_at e counted_log.log) (start.0 ∙ progress.none_handled))

  -- no more is told of an end than it had handled by the point
  abbrev NoMore : EndId → Type 0
  NoMore e = length (at_end r.handled e) ≤ length (handled_of c.point.run e)

  abbrev NoneMore : List EndId → Type 0
  NoneMore [] = Unit {0}
  NoneMore (e ∷ ends) = NoMore e × NoneMore ends

  -- where the core didn't go on
  stopped : c.finish ≡ c.point.run → (e : EndId) → core_at j.bindings e ≡ Some n → NoMore e
  stopped on e own =
      let same = told_count logged tell turns asked j limit cores r ran n c at e own in
      let stays = ap (λ (x : TheRun TheSide). length (handled_of x e)) on in
      omega (arith, same, stays)

  all_stopped : (d : ℕ) → c.finish ≡ c.point.run → (ends : List EndId) → AreEnds j n c d ends → NoneMore ends
  all_stopped d on [] are = tt
  all_stopped d on (e ∷ ends) are = (stopped on e are.0, all_stopped d on ends are.3)

  unfinished_by : (d : ℕ) (ends : List EndId) (end : RunEnd) → end ≢ Finished → GoesOn shared_ways (task c.plan j.jobs limit) end c.point.run c.finish → AreEnds j n c d ends → NoneMore ends
  unfinished_by d ends Finished not on are = absurd (not refl)
  unfinished_by d ends Unfinished not on are = all_stopped d on ends are
  unfinished_by d ends Told not on are = all_stopped d on ends are

  -- where it finished, and all that was handled was handed in
  finished_by : c.part.end ≡ Finished → (e : EndId) → core_at j.bindings e ≡ Some n → IsFirst asked r e → (Knows c e → at_end r.handled e ≡ []) → NoMore e
  finished_by is e own first silent = elim (all_or_refused logged tell turns asked j limit cores r ran n c at e own is) [
    | inl knows ↦ (let none = ap length (silent knows) in omega (arith, none))
    | inr count ↦ (let all = no_longer (at_end r.handled e) (handed_in asked (peer e)) first in omega (arith, all, count))
  ]

  all_finished : (d : ℕ) → c.part.end ≡ Finished → (ends : List EndId) → AreEnds j n c d ends → AreFirst asked c r ends → NoneMore ends
  all_finished d is [] are firsts = tt
  all_finished d is (e ∷ ends) are firsts = (finished_by is e are.0 firsts.0 firsts.1, all_finished d is ends are.3 firsts.2)

  ended_by : (d : ℕ) (ends : List EndId) (end : RunEnd) → c.part.end ≡ end → GoesOn shared_ways (task c.plan j.jobs limit) end c.point.run c.finish → AreEnds j n c d ends
      → AreFirst asked c r ends → NoneMore ends
  ended_by d ends Finished is on are firsts = all_finished d is ends are firsts
  ended_by d ends Unfinished is on are firsts = all_stopped d on ends are
  ended_by d ends Told is on are firsts = all_stopped d on ends are

  told_all : (d : ℕ) (ends : List EndId) → AreEnds j n c d ends → NoneMore ends → handled_at_all r.handled ends ≤ total (λ e. length (handled_at e counted_log.log)) ends
  told_all d [] are none = omega arith
  told_all d (e ∷ ends) are none =
      let by = none.0 in
      let same = by_point e are.0 in
      let rest = told_all d ends are.3 none.1 in
      omega (arith, by, same, rest)

  pub at_most : (d : ℕ) (ends : List EndId) → AreEnds j n c d ends → NoneMore ends → handled_at_all r.handled ends ≤ c.part.turns
  at_most d ends are none =
      let on = to_finish logged tell turns j limit n c (ran.begins n c at) (ran.went n c at) in
      let later = logged c.plan j.jobs on.0 c.point.run c.finish on.1 in
      let settled = settles j.jobs later.log c.point.run c.finish later.goes in
      let told_of = told_all d ends are none in
      let in_log = log_few j n c d ends are j.jobs counted_log.log c.begin.run c.point.run counted_log.goes settled in
      let few = counted_log.few d in
      omega (arith, told_of, in_log, few)

-- an end stays at its dispatcher
pub ends_stay : TurnsAreLogged shared_ways → ProgressTellHandled shared_ways → CountedAreTurns shared_ways → EndsStay
ends_stay logged tell turns asked j limit cores r ran n place c e seat at there stands after sat here sits =
    let begins = ran.begins n c at in
    let went = ran.went n c at in
    let one = to_point logged tell turns j limit n c begins went in
    let two = to_finish logged tell turns j limit n c begins went in
    let first = logged c.plan j.jobs one.0 c.begin.run c.point.run one.1 in
    let rest = logged c.plan j.jobs two.0 c.point.run c.finish two.1 in
    let (last, last_at, last_is, same) =
    settled_then c.begin.run c.point.run c.finish (settles j.jobs first.log c.begin.run c.point.run first.goes) (settles j.jobs rest.log c.point.run c.finish rest.goes)
    e place seat there stands in
    let place_is : after ≡ place = same_Some after place (sym here ∙ last_at) in
    let seat_is : sat ≡ last = same_Some sat last (sym sits ∙ ap (λ (i : ℕ). slice_get c.finish.core.board.seats i) place_is ∙ last_is) in
    ap (λ (x : TheEndAtChannel). x.dispatcher) seat_is ∙ same

pub unfinished_handle_few : TurnsAreLogged shared_ways → ProgressTellHandled shared_ways → CountedAreTurns shared_ways → UnfinishedHandleFew
unfinished_handle_few logged tell turns asked j limit cores r ran n d c ends at not are =
    at_most logged tell turns asked j limit cores r ran n c at d ends are
    (unfinished_by logged tell turns asked j limit cores r ran n c at d ends c.part.end not (ran.went n c at).goes_on are)

pub handle_few : TurnsAreLogged shared_ways → ProgressTellHandled shared_ways → CountedAreTurns shared_ways → DispatchersHandleFew
handle_few logged tell turns asked j limit cores r ran n d c ends at are firsts =
    at_most logged tell turns asked j limit cores r ran n c at d ends are
    (ended_by logged tell turns asked j limit cores r ran n c at d ends c.part.end refl (ran.went n c at).goes_on are firsts)
