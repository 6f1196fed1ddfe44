-- The counted turns of a core by itself: they end at the first number at which nothing is left to do, or at the limit.
use Rattle.std.proofs.Common.{◌≡◌, ◌≢◌, ◌⊎◌, inl, inr, refl, sym, ◌∙◌, ap, subst, ℕ, zero, suc, ◌+◌, ◌<◌, ◌≤◌, nat_lt, Bool, true, false}
use Rattle.std.proofs.Common.{if◌then◌else◌, List, length, slice_get, slice_set, Some, arith}
use Rattle.fl_base.specs.declared.identity.EndId.{EndId}
use Rattle.fl_hop.proofs.Lists.{within, set_same}
use Rattle.fl_world_refines.proofs.Tests.{true_lt, false_lt}
use Rattle.fl_world_refines.specs.View.{TheWorld}
use Rattle.fl_world_refines.specs.Laws.{StepsAgree}
use Rattle.fl_world_refines.proofs.FramesBase.{same_some}
use Rattle.fl_core.specs.declared.core_job.CoreJob.{CoreJob}
use Rattle.fl_core_run.specs.declared.plan.TurnPlan.{TurnPlan}
use Rattle.fl_core_run.specs.declared.run.RunEnd.{RunEnd}
use Rattle.fl_core_run.specs.declared.run.RunEnd.TheVariants.{Finished, Unfinished, Told}
use Rattle.fl_core_run.specs.declared.run.Part.{Part}
use Rattle.fl_core_run.specs.declared.opening_status.OpeningStatus.TheVariants.{Silent}
use Rattle.fl_core_run.specs.Run.{SideRelations, TheRun}
use Rattle.fl_core_run.specs.Turn.{Swept}
use Rattle.fl_core_run.specs.OpeningStatus.{TheRunSeat, Exchanges, ExchangesAt}
use Rattle.fl_core_run.specs.Ran.{RunTask, RunMoment, TakesStock, CountedTurn, EndsAs, GoesOn}
use Rattle.fl_core_refines.specs.AloneTurns.{MachineRun, MachineTask, turned, is_finished, first_finished, counted, ran}
use Rattle.fl_core_refines.specs.AloneShown.{work_of, ShowsAlone, HasFew, AreSilent}
use Rattle.fl_core_refines.specs.AloneLaws.{end_of, RanAsMachine, WentAsMachine, CountsAreTheMachines, RunsAreTheMachines}
use Rattle.fl_core_refines.proofs.Finishing.{all_same}
use Rattle.fl_core_refines.proofs.Rounds.{round_are, rounds_are}

-- ---- silent words stay

word_stays : {S : Type 0} (s : TheRun S) (ends : List EndId) (k : ℕ) (a b : TheRunSeat) → AreSilent ends a.words → ExchangesAt s ends k a b → b.words ≡ a.words
word_stays s ends k a b silent x =
    let is : slice_get a.words k ≡ Some Silent = silent k (within ends k x.name x.name_is) in
    let word : x.word ≡ Silent = same_some (slice_get a.words k) x.word Silent x.word_is is in
    let after : Exchanges s x.name Silent a.seat x.after b.seat = subst (λ v. Exchanges s x.name v a.seat x.after b.seat) word x.exchanges in
    x.rest ∙ ap (slice_set a.words k) after.0 ∙ set_same a.words k Silent is

words_stay : {S : Type 0} (s : TheRun S) (ends : List EndId) (n : ℕ) (a b : TheRunSeat) → AreSilent ends a.words → Swept (ExchangesAt s ends) n a b
    → b.words ≡ a.words
words_stay s ends zero a b silent u = ap (λ (c : TheRunSeat). c.words) u
words_stay s ends (suc n) a b silent (m, before, step) =
    let one = words_stay s ends n a m silent before in
    word_stays s ends n m b (subst (AreSilent ends) (sym one) silent) step ∙ one

-- whether anything is left, as the core takes stock
taken : {S : Type 0} (w : TheWorld) (plan : TurnPlan) (jobs : List CoreJob) (s : RunMoment S) (c : TheRunSeat) (a : MachineRun) (finished : Bool) → ShowsAlone w s.run a
    → HasFew plan.ends.items
    → AreSilent plan.ends.items s.run_seat.words → TakesStock plan s c finished → (is_finished (work_of plan jobs) a ≡ finished) × (c.words ≡ s.run_seat.words)
taken w plan jobs s c a finished x few silent takes =
    let words = words_stay s.run plan.ends.items (length plan.ends.items) s.run_seat c silent takes.0 in
    let same = all_same w s.run a plan.ends.items c.words (length plan.ends.items) x few (subst (AreSilent plan.ends.items) (sym words) silent) in
    (sym same ∙ takes.1, words)

-- ---- counted turns

record Came {S : Type 0} (w : TheWorld) (p : MachineTask) (s m : RunMoment S) (a : MachineRun) (n : ℕ) : Type 0 where
  pub shows : ShowsAlone w m.run (turned p n a)
  pub words : m.run_seat.words ≡ s.run_seat.words
  pub before : (k : ℕ) → k < n → is_finished p (turned p k a) ≡ false

turn_by_turn : {S : Type 0} (ways : SideRelations S) (law : StepsAgree) (w : TheWorld) (t : RunTask) (s m : RunMoment S) (a : MachineRun) (n : ℕ) → ShowsAlone w s.run a
    → HasFew t.plan.ends.items → AreSilent t.plan.ends.items s.run_seat.words → Swept (λ k. CountedTurn ways t) n s m → Came w (work_of t.plan t.jobs) s m a n
turn_by_turn {S} ways law w t s m a zero x few silent u = record {
  shows = subst (λ (b : RunMoment S). ShowsAlone w b.run a) (sym u) x;
  words = ap (λ (b : RunMoment S). b.run_seat.words) u;
  before = λ k less. absurd (omega (arith, less));
}
turn_by_turn {S} ways law w t s m a (suc n) x few silent (b, before, step) =
    let one = turn_by_turn ways law w t s b a n x few silent before in
    let left = taken w t.plan t.jobs b step.stock (turned (work_of t.plan t.jobs) n a) false one.shows few
    (subst (AreSilent t.plan.ends.items) (sym one.words) silent) step.left in
    record {
      shows = round_are ways law w t.plan t.jobs b.run m.run (turned (work_of t.plan t.jobs) n a) one.shows step.turn;
      words = step.sees.0 ∙ left.1 ∙ one.words;
      before = λ k less. by k (nat_lt k n) less refl one.before left.0;
    }
  where
    by : (k : ℕ) (b : Bool) → k < suc n → nat_lt k n ≡ b → ((j : ℕ) → j < n → is_finished (work_of t.plan t.jobs) (turned
        (work_of t.plan t.jobs) j a) ≡ false)
        → is_finished (work_of t.plan t.jobs) (turned (work_of t.plan t.jobs) n a) ≡ false → is_finished (work_of t.plan t.jobs) (turned
        (work_of t.plan t.jobs) k a) ≡ false
    by k true less q all last = all k (true_lt k n q)
    by k false less q all last =
        let past = false_lt k n q in
        let same : n ≡ k = omega (arith, less, past) in
        subst (λ j. is_finished (work_of t.plan t.jobs) (turned (work_of t.plan t.jobs) j a) ≡ false) same last

-- ---- the first number at which nothing is left, or the last

first_is : (p : MachineTask) (a : MachineRun) (n more t : ℕ) → n ≤ t → t ≤ n + more → ((k : ℕ) → k < t → is_finished p (turned p k a) ≡ false)
    → (is_finished p (turned p t a) ≡ true) ⊎ (t ≡ n + more) → first_finished p a n more ≡ t
first_is p a n zero t low high before last = omega (arith, low, high)
first_is p a n (suc more) t low high before last =
    by (nat_lt n t) refl (λ less. first_is p a (suc n) more t (omega (arith, less)) (omega (arith, high)) before (onward last))
  where
    at_last : n ≡ t → (is_finished p (turned p t a) ≡ true) ⊎ (t ≡ n + suc more) → first_finished p a n (suc more) ≡ t
    at_last same (inl q) =
        ap (λ b. if b then n else first_finished p a (suc n) more) (subst (λ k. is_finished p (turned p k a) ≡ true) (sym same) q) ∙ same
    at_last same (inr q) = absurd (omega (arith, same, q))

    onward : (is_finished p (turned p t a) ≡ true) ⊎ (t ≡ n + suc more) → (is_finished p (turned p t a) ≡ true) ⊎ (t ≡ suc n + more)
    onward (inl q) = inl q
    onward (inr q) = inr (omega (arith, q))

    by : (b : Bool) → nat_lt n t ≡ b → (n < t → first_finished p a (suc n) more ≡ t) → first_finished p a n (suc more) ≡ t
    by true q rest =
        let less = true_lt n t q in
        ap (λ b. if b then n else first_finished p a (suc n) more) (before n less) ∙ rest less
    by false q rest = let past = false_lt n t q in at_last (omega (arith, low, past)) last

-- ---- the law

-- how the run came to its end
record Ended {S : Type 0} (w : TheWorld) (t : RunTask) (s : RunMoment S) (a : MachineRun) (part : Part) (m : RunMoment S) : Type 0 where
  pub last : (is_finished (work_of t.plan t.jobs) (turned (work_of t.plan t.jobs) part.turns a) ≡ true) ⊎ (part.turns ≡ t.limit)
  pub end : part.end ≡ end_of (is_finished (work_of t.plan t.jobs) (turned (work_of t.plan t.jobs) part.turns a))

ends_so : {S : Type 0} (w : TheWorld) (t : RunTask) (s : RunMoment S) (a : MachineRun) (part : Part) (m : RunMoment S) (c : TheRunSeat) (end : RunEnd) → HasFew t.plan.ends.items
    → AreSilent t.plan.ends.items m.run_seat.words → ShowsAlone w m.run (turned (work_of t.plan t.jobs) part.turns a) → part.end ≡ end → end ≢ Told
    → EndsAs t part.turns end m c → Ended w t s a part m
ends_so w t s a part m c Finished few silent x is not_told u =
    let done = taken w t.plan t.jobs m c (turned (work_of t.plan t.jobs) part.turns a) true x few silent u in
    record { last = inl done.0; end = is ∙ ap end_of (sym done.0) }
ends_so w t s a part m c Unfinished few silent x is not_told u =
    let left = taken w t.plan t.jobs m c (turned (work_of t.plan t.jobs) part.turns a) false x few silent u.1 in
    record { last = inr u.0; end = is ∙ ap end_of (sym left.0) }
ends_so w t s a part m c Told few silent x is not_told u = absurd (not_told refl)

pub counts_are : {S : Type 0} (ways : SideRelations S) → StepsAgree → CountsAreTheMachines ways
counts_are {S} ways law w t s b part a x few silent not_told h =
    let came = turn_by_turn ways law w t s h.after a part.turns x few silent h.turns in
    let ended = ends_so w t s a part h.after b.run_seat part.end few (subst (AreSilent t.plan.ends.items)
    (sym came.words) silent) came.shows refl not_told h.ends in
    let many : counted (work_of t.plan t.jobs) t.limit a ≡ part.turns
    = first_is (work_of t.plan t.jobs) a 0 t.limit part.turns (omega arith) (let few_turns = h.few in omega (arith, few_turns)) came.before
    (from_limit ended.last) in
    record {
      turns = sym many;
      shows = subst (λ n. ShowsAlone w b.run (turned (work_of t.plan t.jobs) n a)) (sym many)
          (subst (λ (r : TheRun S). ShowsAlone w r (turned (work_of t.plan t.jobs) part.turns a)) (sym h.rests) came.shows);
      end = ended.end ∙ ap (λ n. end_of (is_finished (work_of t.plan t.jobs) (turned (work_of t.plan t.jobs) n a))) (sym many);
    }
  where
    from_limit : {P : Type 0} → P ⊎ (part.turns ≡ t.limit) → P ⊎ (part.turns ≡ 0 + t.limit)
    from_limit (inl q) = inl q
    from_limit (inr q) = inr (omega (arith, q))

pub runs_are : {S : Type 0} (ways : SideRelations S) → StepsAgree → RunsAreTheMachines ways
runs_are {S} ways law w t s b part a x few silent not_told h =
    let one = counts_are ways law w t s h.middle part a x few silent not_told h.counted in
    by one part.end refl h.goes_on
  where
    by : (one : RanAsMachine w t a part h.middle.run) (end : RunEnd) → part.end ≡ end → GoesOn ways t end h.middle.run b.run
        → WentAsMachine w t a part h.middle.run b.run
    by one Finished is (more, turns) =
        record {
          ran = one;
          more = more;
          shows = rounds_are ways law w t.plan t.jobs more h.middle.run b.run (ran
              (work_of t.plan t.jobs) t.limit a) one.shows turns;
        }
    by one Unfinished is same = record {
      ran = one;
      more = 0;
      shows = subst (λ (r : TheRun S). ShowsAlone w r (ran
          (work_of t.plan t.jobs) t.limit a)) (sym same) one.shows;
    }
    by one Told is same = absurd (not_told is)
