-- Where memory is wanted nothing is half done, but for what is told.
use Rattle.std.proofs.Common.{◌≡◌, refl, sym, ap, ◌∙◌, subst, inr, ℕ, zero, suc, ◌+◌, ◌<◌, false, Bool, List, length, slice_set, slice_index_or, Option, Some, Result, Ok, Err, arith}
use Rattle.std.specs.Prelude.{OnErr}
use Rattle.std.proofs.lemmas.Option.{slice_get_read}
use Rattle.std.proofs.lemmas.Result.{on_err_weaker}
use Rattle.fl_base.specs.declared.identity.EndId.{EndId}
use Rattle.fl_base.specs.declared.identity.LinkId.{LinkId}
use Rattle.fl_value_data.specs.declared.value.Call.{Call}
use Rattle.fl_core.proofs.BoardPlaces.{set_same}
use Rattle.fl_core.specs.declared.turn_answer.TurnAnswer.{TurnAnswer}
use Rattle.fl_core.specs.declared.turn_answer.TurnAnswer.TheVariants.{Handle}
use Rattle.fl_core.specs.View.{place_of}
use Rattle.fl_core.specs.declared.core_job.CoreJob.{CoreJob}
use Rattle.fl_core_run.specs.declared.lent.LentTakeEnd.{LentTakeEnd}
use Rattle.fl_core_run.specs.declared.plan.TurnPlan.{TurnPlan}
use Rattle.fl_core_run.specs.declared.run.Part.{Part}
use Rattle.fl_core_run.specs.EndProgress.{TheEndProgress}
use Rattle.fl_core_run.specs.Run.{SideRelations, TheRun, lent_due}
use Rattle.fl_core_run.specs.LogEntries.{turned, Does}
use Rattle.fl_core_run.specs.Steps.{Forwards, Says, Serves, awaits, due_turn, TurnsIf, TurnsAt, TakesTurn}
use Rattle.fl_core_run.specs.Turn.{Swept, ForEach, OneTurn}
use Rattle.fl_core_run.specs.Ran.{RunTask, RunMoment, CountedTurn, Counted}
use Rattle.fl_core_run.specs.Stops.{LeavesJob, LeavesCall, LeavesTurn, StopsIn, StopsAmong, PartOfTurn, in_serves, in_turns, StopsInTurn}
use Rattle.fl_core_run.proofs.Counted.{are_turns, turns_of}
use Rattle.fl_core_run.proofs.Wanting.{handles}

pub on_err : {T E P : Type 0} (r : Result T E) → P → OnErr r P
on_err (Ok x) p = tt
on_err (Err e) p = p

-- ---- a call that was handled, and stands at no end's progress

-- the end's progress that has no memory for it is as it was
pub call_left : {S T E : Type 0} (s : TheRun S) (answer : TurnAnswer) (call : Call) (n : ℕ) (p q : TheEndProgress) (r : Result T E) → answer ≡ Handle call → n < length s.progresses
    → p ≡ slice_index_or s.progresses n p → OnErr r (q ≡ p) → OnErr r ((x : Call) × (answer ≡ Handle x) × (record s { progresses = slice_set s.progresses n q } ≡ s))
call_left s answer call n p q r is below value kept =
    on_err_weaker r (λ same.
    let progresses : slice_set s.progresses n q ≡ s.progresses =
    ap (λ (x : TheEndProgress). slice_set s.progresses n x) same ∙ set_same s.progresses n p (slice_get_read s.progresses (length s.progresses) n p refl below value) in
    (call, is, ap (λ (xs : List TheEndProgress). record s { progresses = xs }) progresses)) kept

pub handled_left : {S T E : Type 0} (w : SideRelations S) (d : ℕ) (name : EndId) (due : LentTakeEnd) (b : Bool) (answer : TurnAnswer) (s m t : TheRun S) (r : Result T E) → b ≡ false
    → Does w (turned d name due.inlet answer) s m → OnErr r ((call : Call) × (answer ≡ Handle call) × (t ≡ m))
    → OnErr r ((b ≡ false) × LeavesCall w d name due s t)
handled_left w d name due b answer s m t r ready does left =
    on_err_weaker r (λ h. (
      ready,
      inr (
        h.0,
        subst (λ (x : TheRun _). Does w (turned d name due.inlet (Handle h.0)) s x) (sym h.2)
            (subst (λ (a : TurnAnswer). Does w (turned d name due.inlet a) s m) h.1 does),
      ),
    )) left

-- ---- a turn of a dispatcher, at the end that is due

module _ {S : Type 0} (w : SideRelations S) (jobs : List CoreJob) (d : ℕ) (name : EndId) (at : LentTakeEnd) (s t : TheRun S) (due_is : Some at ≡ lent_due s d)
    (name_is : place_of s.core name ≡ Some at.end) where
  pub taken : (b : Bool) → b ≡ awaits jobs s name → TurnsIf w b (due_turn d name at) s t → TakesTurn w jobs d s t
  taken b is h =
      subst (λ (o : Option LentTakeEnd). TurnsAt w jobs d o s t) due_is (name, name_is, subst (λ (c : Bool). TurnsIf w c (due_turn d name at) s t) is h)

  pub left_turn : awaits jobs s name ≡ false → LeavesCall w d name at s t → LeavesTurn w jobs d s t
  left_turn ready leaves = record {
    due = at;
    due_is = sym due_is;
    name = name;
    name_is = name_is;
    ready = ready;
    leaves = leaves;
    handles = handles w d name at s t name_is leaves;
  }

-- ---- a part of a turn

module _ {S : Type 0} (w : SideRelations S) (plan : TurnPlan) (jobs : List CoreJob) (links links2 : List LinkId) (ends : List EndId) (a : links ≡ plan.links.items)
    (b : links2 ≡ plan.links.items) (e : ends ≡ plan.ends.items) (s m n : TheRun S) (forwards : ForEach links (Forwards w) s m)
    (says : ForEach links2 (Says w) m n) where
  forwards_by : ForEach plan.links.items (Forwards w) s m
  forwards_by = subst (λ (xs : List LinkId). ForEach xs (Forwards w) s m) a forwards

  says_by : ForEach plan.links.items (Says w) m n
  says_by = subst (λ (xs : List LinkId). ForEach xs (Says w) m n) b says

  pub serving : (t : TheRun S) → StopsAmong ends (Serves w jobs) (LeavesJob jobs) n t → PartOfTurn w plan jobs s t
  serving t stops = in_serves m n forwards_by says_by (subst (λ (xs : List EndId). StopsAmong xs (Serves w jobs) (LeavesJob jobs) n t) e stops)

  pub turning : (served t : TheRun S) → ForEach ends (Serves w jobs) n served → StopsIn (TakesTurn w jobs) (LeavesTurn w jobs) plan.dispatchers served t
      → PartOfTurn w plan jobs s t
  turning served t serves stops = in_turns m n served forwards_by says_by (subst (λ (xs : List EndId). ForEach xs (Serves w jobs) n served) e serves) stops

-- ---- turns, and a part of one

swept_join : {S : Type 0} (step : S → S → Type 0) (j k : ℕ) (s m t : S) → Swept (λ n. step) j s m → Swept (λ n. step) k m t → Swept (λ n. step) (j + k) s t
swept_join step j zero s m t a b = subst (λ x. Swept (λ n. step) (j + 0) s x) (sym b) (let e : j ≡ j + 0 = omega arith in subst (λ (i : ℕ). Swept (λ n. step) i s m) e a)
swept_join step j (suc k) s m t a b =
    let e : suc (j + k) ≡ j + suc k = omega arith in
    subst (λ (i : ℕ). Swept (λ n. step) i s t) e (b.0, swept_join step j k s m b.0 a b.1, b.2)

pub stopped_counting : {S : Type 0} (w : SideRelations S) (t : RunTask) (k : ℕ) (a b : RunMoment S) (r : TheRun S) → Swept (λ n. CountedTurn w t) k a b
    → PartOfTurn w t.plan t.jobs b.run r → StopsInTurn w t.plan t.jobs a.run r
stopped_counting w t k a b r whole part = (k, b.run, are_turns w t k a b whole, part)

pub stopped_behind : {S : Type 0} (w : SideRelations S) (t : RunTask) (a b : RunMoment S) (part : Part) (r : TheRun S) → Counted w t a part b
    → StopsInTurn w t.plan t.jobs b.run r → StopsInTurn w t.plan t.jobs a.run r
stopped_behind w t a b part r counted stops =
    (part.turns + stops.0, stops.1, swept_join (OneTurn w t.plan t.jobs) part.turns stops.0 a.run b.run stops.1 (turns_of w t a b part counted) stops.2, stops.3)
