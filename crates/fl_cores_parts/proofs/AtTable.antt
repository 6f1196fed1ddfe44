-- The sides of one table, from the first moment of a run to its last.
use Rattle.std.proofs.Common.{◌≡◌, ◌≢◌, refl, sym, ap, ◌∙◌, subst, arith, ℕ, zero, suc, List, [], ◌∷◌, ◌++◌, length, map, Some}
use Rattle.std.specs.List.{AllZip, AllByRecursion}
use Rattle.std.proofs.lemmas.List.{map-append}
use Rattle.atomic_table.specs.Seated.{TableId}
use Rattle.fl_ring.specs.Duo.{TheDuo}
use Rattle.fl_ring.specs.SharedSides.{TheSide}
use Rattle.fl_history_rings.specs.declared.board.RingEnds.{RingEnds}
use Rattle.fl_history_rings.specs.declared.board.SideEnd.{SideEnd}
use Rattle.fl_history_rings.specs.Rings.{sides_of}
use Rattle.fl_history_rings.specs.Cores.{IsSameCore}
use Rattle.fl_history_sides.specs.States.{TheHistorySide, first_shown, numbers_of}
use Rattle.fl_history_sides.specs.Noted.{HistoryPuts, HistoryTakes}
use Rattle.fl_history_sides.specs.Ways.{history_ways}
use Rattle.fl_history_sides.proofs.Laws.{sides_stay}
use Rattle.fl_core.specs.declared.core_job.CoreJob.{CoreJob}
use Rattle.fl_core_run.specs.Run.{TheRun}
use Rattle.fl_core_run.specs.Ran.{RunTask, RunMoment, task, moment, run_seat_of, CoreRan}
use Rattle.fl_core_run_laws.specs.Logs.{SidesGo}
use Rattle.fl_core_run_laws.proofs.Looking.{logs_look}
use Rattle.fl_cores_shares.specs.Shares.{Holdings, AreHandedOut}
use Rattle.fl_cores_shares.specs.Settled.{TwoSides, Each, IsNear, sides_of as both_of}
use Rattle.fl_history_sides.specs.declared.sides.HistorySides.{HistorySides}
use Rattle.fl_history_sides.specs.Lent.{states_in}
use Rattle.fl_history_shares.specs.Dealt.{hands_in, owners_in, numbers_below, new_core, first_hands, shown_hands}
use Rattle.fl_history_shares.specs.Settled.{IsAt, AreAt, AreAtOne, AreSettled}
use Rattle.fl_history_shares.proofs.Shown.{first_numbers}
use Rattle.fl_history_shares.proofs.Near.{settled_are_near}
use Rattle.fl_cores_fork.specs.declared.core_thread.CoreThread.{CoreThread}
use Rattle.fl_cores_fork.specs.declared.core_thread.FinishedCore.{FinishedCore}
use Rattle.fl_cores_fork.specs.Runs.{TheCoreThread, TheFinishedCore, sides_left}
use Rattle.fl_cores_fork.specs.CoreThreads.{noted_run, core_thread_of, outcome_of, hand_given, hands_given, hand_left, hands_left, CoreThreadRan}
use Rattle.fl_cores_parts.specs.Shares.{sides_given}
use Rattle.fl_cores_parts.specs.AtTable.{AreBetween, BeginAtTable, AreNoted, hands_of, RanAtTable}
use Rattle.fl_cores_parts.proofs.Ringing.{run_log, log_many}

-- ---- as sides of rings by themselves

pub shown_given : (xs : List CoreThread) → sides_given (map core_thread_of xs) ≡ shown_hands (hands_given xs)
shown_given [] = refl
shown_given (x ∷ xs) = ap (λ (hands : Holdings TheSide). map (λ (p : TheHistorySide). p.side) (hand_given x) ∷ hands) (shown_given xs)

shown_left : (ys : List FinishedCore) → sides_left (map outcome_of ys) ≡ shown_hands (hands_left ys)
shown_left [] = refl
shown_left (y ∷ ys) = ap (λ (hands : Holdings TheSide). map (λ (p : TheHistorySide). p.side) (hand_left y) ∷ hands) (shown_left ys)

-- a core thread more, with its sides
pub hands_more : (all xs : List CoreThread) (x : CoreThread) (sides rest : List HistorySides) (own : HistorySides) → all ≡ xs ++ x ∷ [] → sides ≡ rest ++ own ∷ []
    → hands_given xs ≡ hands_in rest → x.running.value.rings ≡ own → hands_given all ≡ hands_in sides
hands_more all xs x sides rest own more whole so one =
    ap hands_given more ∙ map-append hand_given xs (x ∷ [])
    ∙ ap (λ (hands : Holdings TheHistorySide). hands ++ hand_given x ∷ []) so
    ∙ ap (λ (s : HistorySides). hands_in rest ++ states_in s.lent ∷ []) one
    ∙ sym (map-append (λ (s : HistorySides). states_in s.lent) rest (own ∷ [])) ∙ sym (ap hands_in whole)

-- ---- one core

stays_at : (table : TableId) (ends : List SideEnd) (p q : TheHistorySide) → IsSameCore p.core q.core → IsAt table ends p → IsAt table ends q
stays_at table ends p q same at = record { table_is = same.table_is ∙ at.table_is; sides_are = same.sides_are ∙ at.sides_are }

-- each side is where it was, and of the same number
record StillThere (table : TableId) (ends : List SideEnd) (ps qs : List TheHistorySide) : Type 0 where
  pub at : AllByRecursion (IsAt table ends) ps → AllByRecursion (IsAt table ends) qs
  pub numbers : numbers_of qs ≡ numbers_of ps

all_still : (table : TableId) (ends : List SideEnd) (ps qs : List TheHistorySide) → length qs ≡ length ps → SidesGo HistoryPuts HistoryTakes ps qs → StillThere table ends ps qs
all_still table ends [] [] same go = record { at = λ all. tt; numbers = refl }
all_still table ends [] (q ∷ qs) same go = absurd (omega (arith, same))
all_still table ends (p ∷ ps) [] same go = absurd (omega (arith, same))
all_still table ends (p ∷ ps) (q ∷ qs) same go =
    let first = go zero p refl in
    let at : Some q ≡ Some first.0 = first.1 in
    let is : first.0 ≡ q = cc in
    let stay = sides_stay p first.0 first.2.0 first.2.1 in
    let rest = all_still table ends ps qs (omega (arith, same)) (λ n x there. go (suc n) x there) in
    record {
      at = λ all. (subst (IsAt table ends) is (stays_at table ends p first.0 stay.1 all.0), rest.at all.1);
      numbers = ap (λ (n : ℕ). n ∷ numbers_of qs) (ap (λ (x : TheHistorySide). x.number) (sym is) ∙ stay.0) ∙ ap (λ (ns : List ℕ). p.number ∷ ns) rest.numbers;
    }

core_still : (table : TableId) (ends : List SideEnd) (jobs : List CoreJob) (limit : ℕ) (x : CoreThread) (y : FinishedCore) → CoreThreadRan jobs limit x y
    → StillThere table ends (hand_given x) (hand_left y)
core_still table ends jobs limit x y ran =
    let begin = noted_run x.running.value in
    let end = noted_run y.core_thread.running.value in
    let log = run_log history_ways (task x.plan jobs limit) (moment begin (run_seat_of x.run_seat)) (moment end (run_seat_of y.core_thread.run_seat)) y.part ran.noted in
    all_still table ends begin.rings end.rings (log_many history_ways jobs begin end log.0 log.1) (logs_look history_ways jobs begin end log.0 log.1)

-- ---- all cores

module _ (table : TableId) (ends : List SideEnd) (jobs : List CoreJob) (limit : ℕ) where
  still_at : (xs : List CoreThread) (ys : List FinishedCore) → AllZip (CoreThreadRan jobs limit) xs ys → AreAt table ends (hands_given xs) → AreAt table ends (hands_left ys)
  still_at [] [] ran at = tt
  still_at [] (y ∷ ys) ran at = absurd ran
  still_at (x ∷ xs) [] ran at = absurd ran
  still_at (x ∷ xs) (y ∷ ys) ran at = ((core_still table ends jobs limit x y ran.0).at at.0, still_at xs ys ran.1 at.1)

  still_numbered : (xs : List CoreThread) (ys : List FinishedCore) → AllZip (CoreThreadRan jobs limit) xs ys → map numbers_of (hands_left ys) ≡ map numbers_of (hands_given xs)
  still_numbered [] [] ran = refl
  still_numbered [] (y ∷ ys) ran = absurd ran
  still_numbered (x ∷ xs) [] ran = absurd ran
  still_numbered (x ∷ xs) (y ∷ ys) ran =
      ap (λ (own : List ℕ). own ∷ map numbers_of (hands_left ys)) (core_still table ends jobs limit x y ran.0).numbers
      ∙ ap (λ (hands : Holdings ℕ). numbers_of (hand_given x) ∷ hands) (still_numbered xs ys ran.1)

-- as they begin
hand_at : (table : TableId) (ends : List SideEnd) (core : ℕ) (numbers : List ℕ) → AllByRecursion (IsAt table ends) (map (first_shown (new_core table ends core)) numbers)
hand_at table ends core [] = tt
hand_at table ends core (n ∷ numbers) = (record { table_is = refl; sides_are = refl }, hand_at table ends core numbers)

first_at : (table : TableId) (ends : List SideEnd) (core : ℕ) (holdings : Holdings ℕ) → AreAt table ends (first_hands table ends core holdings)
first_at table ends core [] = tt
first_at table ends core (numbers ∷ holdings) = (hand_at table ends core numbers, first_at table ends (suc core) holdings)

module _ (rings : List TheDuo) (owners : List ℕ) (cores : ℕ) (xs : List CoreThread) (ys : List FinishedCore) (begin : BeginAtTable rings owners cores (hands_given xs))
    (jobs : List CoreJob) (limit : ℕ) (ran : AllZip (CoreThreadRan jobs limit) xs ys) where
  left_at : AreAt begin.table (sides_of begin.ends) (hands_left ys)
  left_at =
      still_at begin.table (sides_of begin.ends) jobs limit xs ys ran
      (subst (AreAt begin.table (sides_of begin.ends)) (sym begin.hands_are) (first_at begin.table (sides_of begin.ends) 0 begin.numbers))

  pub left_at_one : AreAtOne (hands_left ys)
  left_at_one = (begin.table, sides_of begin.ends, left_at)

  -- by core, the numbers of its sides
  left_numbered : map numbers_of (hands_left ys) ≡ begin.numbers
  left_numbered =
      still_numbered begin.table (sides_of begin.ends) jobs limit xs ys ran ∙ ap (map numbers_of) begin.hands_are
      ∙ first_numbers begin.table (sides_of begin.ends) 0 begin.numbers

  module _ (settled : (table : TableId) (ends : List SideEnd) → AreAt table ends (hands_left ys) → AreSettled ends (hands_left ys)) where
    left_settled : AreSettled (sides_of begin.ends) (hands_left ys)
    left_settled = settled begin.table (sides_of begin.ends) left_at

    pub left_near : (after : List TwoSides) → AreHandedOut owners (both_of after) (sides_left (map outcome_of ys)) → Each IsNear after
    left_near after out =
        let same = sym begin.between.owners_are in
        let numbered : AreHandedOut owners (numbers_below (length owners)) (map numbers_of (hands_left ys)) =
        subst (λ (hs : Holdings ℕ). AreHandedOut owners (numbers_below (length owners)) hs) (sym left_numbered) begin.handed_out in
        settled_are_near begin.ends cores (hands_left ys) begin.between.of
        (subst (λ (os : List ℕ). AreHandedOut os (numbers_below (length os)) (map numbers_of (hands_left ys))) same numbered) left_settled after
        (subst (λ (os : List ℕ). AreHandedOut os (both_of after) (shown_hands (hands_left ys))) same
        (subst (λ (hs : Holdings TheSide). AreHandedOut owners (both_of after) hs) (shown_left ys) out))

    all_noted : (us : List CoreThread) (bs : List FinishedCore) → AllZip (CoreThreadRan jobs limit) us bs
        → AreNoted jobs limit (map core_thread_of us) (map outcome_of bs) (map (λ (x : CoreThread). noted_run x.running.value) us)
        (map (λ (y : FinishedCore). noted_run y.core_thread.running.value) bs)
    all_noted [] [] all = tt
    all_noted [] (y ∷ bs) all = absurd all
    all_noted (x ∷ us) [] all = absurd all
    all_noted (x ∷ us) (y ∷ bs) all = (record { begin_is = refl; end_is = refl; ran = all.0.noted; one = all.0.one }, all_noted us bs all.1)

    given_of : (us : List CoreThread) → hands_of (map (λ (x : CoreThread). noted_run x.running.value) us) ≡ hands_given us
    given_of [] = refl
    given_of (x ∷ us) = ap (λ (hands : Holdings TheHistorySide). hand_given x ∷ hands) (given_of us)

    left_of : (bs : List FinishedCore) → hands_of (map (λ (y : FinishedCore). noted_run y.core_thread.running.value) bs) ≡ hands_left bs
    left_of [] = refl
    left_of (y ∷ bs) = ap (λ (hands : Holdings TheHistorySide). hand_left y ∷ hands) (left_of bs)

    pub ran_at : cores ≡ length (map core_thread_of xs) → RanAtTable jobs limit rings owners (map core_thread_of xs) (map outcome_of ys)
    ran_at many = record {
      begins = map (λ (x : CoreThread). noted_run x.running.value) xs;
      ends = map (λ (y : FinishedCore). noted_run y.core_thread.running.value) ys;
      noted = all_noted xs ys ran;
      at = record {
        ends = begin.ends;
        between = subst (λ (n : ℕ). AreBetween rings owners n begin.ends) many begin.between;
        table = begin.table;
        numbers = begin.numbers;
        handed_out = begin.handed_out;
        hands_are = given_of xs ∙ begin.hands_are;
      };
      settled = subst (AreSettled (sides_of begin.ends)) (sym (left_of ys)) left_settled;
    }
