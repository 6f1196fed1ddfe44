-- Whole turns of a core by itself, and turns in a row, are the machine's.
use Rattle.std.proofs.Common.{◌≡◌, sym, ◌∙◌, ap, subst, ℕ, zero, suc, nat_lt, Bool, true, false, if◌then◌else◌, List, [], length, Option, Some, None, arith}
use Rattle.fl_base.specs.declared.identity.EndId.{EndId}
use Rattle.fl_base.specs.declared.identity.LinkId.{LinkId}
use Rattle.fl_base.specs.Given.{given}
use Rattle.fl_core.specs.declared.wiring.Inlet.{Inlet}
use Rattle.fl_core.specs.View.{place_of, side_of_link, inlet_of}
use Rattle.fl_world_refines.proofs.Tests.{lt_false}
use Rattle.fl_world_refines.specs.View.{TheWorld}
use Rattle.fl_world_refines.specs.Laws.{StepsAgree}
use Rattle.fl_core.specs.declared.core_job.CoreJob.{CoreJob}
use Rattle.fl_core_run.specs.declared.plan.TurnPlan.{TurnPlan}
use Rattle.fl_core_run.specs.Run.{SideRelations, TheRun, lent_link_side, side_in}
use Rattle.fl_core_run.specs.Steps.{ForwardsOver, Forwards, SaysOver, Says, TellsOver, Tells, Serves, AcksFrom, Acknowledges, TakesTurn}
use Rattle.fl_core_run.specs.Turn.{Swept, At, OneTurn, Turned}
use Rattle.fl_core_refines.specs.AloneTurns.{MachineRun, serves, takes_turn, MachineTask, swept, serves_at, one_turn, turned}
use Rattle.fl_core_refines.specs.AloneShown.{work_of, ShowsAlone}
use Rattle.fl_core_refines.proofs.Serving.{serves_are}
use Rattle.fl_core_refines.proofs.Due.{turn_are}

-- ---- what does nothing

still_swept : {X : Type 0} (R : ℕ → X → X → Type 0) (s : X) → ((n : ℕ) (t : X) → R n s t → t ≡ s) → (n : ℕ) (t : X) → Swept R n s t → t ≡ s
still_swept R s still zero t u = u
still_swept {X} R s still (suc n) t (m, before, step) =
    let one : m ≡ s = still_swept R s still n m before in
    still n t (subst (λ (r : X). R n r t) one step)

no_link_side : {S : Type 0} (s : TheRun S) (l : LinkId) → s.core.link_sides ≡ [] → lent_link_side s l ≡ None
no_link_side s l none = ap (λ ls. given (side_of_link ls l.0) None λ n. if nat_lt n (length s.rings) then Some n else None) none

forwards_nothing : {S : Type 0} (ways : SideRelations S) (links : List LinkId) (s : TheRun S) → s.core.link_sides ≡ [] → (n : ℕ) (t : TheRun S)
    → At links (Forwards ways) n s t → t ≡ s
forwards_nothing ways links s none n t (l, is, u) = subst (λ o. ForwardsOver ways l o s t) (no_link_side s l none) u

says_nothing : {S : Type 0} (ways : SideRelations S) (links : List LinkId) (s : TheRun S) → s.core.link_sides ≡ [] → (n : ℕ) (t : TheRun S)
    → At links (Says ways) n s t → t ≡ s
says_nothing ways links s none n t (l, is, u) = subst (λ o. SaysOver ways l o s t) (no_link_side s l none) u

tells_nothing : {S : Type 0} (ways : SideRelations S) (links : List LinkId) (s : TheRun S) → s.core.link_sides ≡ [] → (n : ℕ) (t : TheRun S)
    → At links (Tells ways) n s t → t ≡ s
tells_nothing ways links s none n t (l, is, u) = subst (λ o. TellsOver ways l o s t) (no_link_side s l none) u

none_below : (n : ℕ) → nat_lt n 0 ≡ false
none_below n = lt_false n 0 (omega arith)

acks_nothing : {S : Type 0} (ways : SideRelations S) (ends : List EndId) (s : TheRun S) → s.rings ≡ [] → (n : ℕ) (t : TheRun S)
    → At ends (Acknowledges ways) n s t → t ≡ s
acks_nothing {S} ways ends s none n t (name, is, u) = by (place_of s.core name) u
  where
    over : (e n : ℕ) (b : Bool) → b ≡ false → AcksFrom ways name (if b then Some (record { end = e; side = n }) else None) s t → t ≡ s
    over e n false q v = v
    over e n true q v = absurd (cc)

    by_side : (e : ℕ) (o : Option ℕ) → AcksFrom ways name (given o None λ m. if nat_lt m (length s.rings) then Some
        (record { end = e; side = m }) else None) s t → t ≡ s
    by_side e None v = v
    by_side e (Some m) v = over e m (nat_lt m (length s.rings)) (ap (λ (rs : List S). nat_lt m (length rs)) none ∙ none_below m) v

    by_inlet : (e : ℕ) (o : Option Inlet)
        → AcksFrom ways name (given o None λ from. given (side_in from) None λ m. if nat_lt m (length s.rings) then Some
        (record { end = e; side = m }) else None) s t
        → t ≡ s
    by_inlet e None v = v
    by_inlet e (Some from) v = by_side e (side_in from) v

    by : (o : Option ℕ) → AcksFrom ways name (given o None λ e. given (inlet_of s.core e) None λ from. given (side_in from) None λ m.
        if nat_lt m (length s.rings) then Some (record { end = e; side = m }) else None) s t → t ≡ s
    by None v = v
    by (Some e) v = by_inlet e (inlet_of s.core e) v

-- ---- ends and dispatchers in order

served_are : {S : Type 0} (ways : SideRelations S) (law : StepsAgree) (w : TheWorld) (p : MachineTask) (s t : TheRun S) (a : MachineRun) (n : ℕ)
    → ShowsAlone w s a → Swept (At p.ends (Serves ways p.jobs)) n s t → ShowsAlone w t (swept (serves_at p) n a)
served_are {S} ways law w p s t a zero x u = subst (λ (r : TheRun S). ShowsAlone w r a) (sym u) x
served_are ways law w p s t a (suc n) x (m, before, (e, is, step)) =
    let one = served_are ways law w p s m a n x before in
    let two = serves_are ways law w p.jobs m t (swept (serves_at p) n a) e one step in
    subst (λ o. ShowsAlone w t (given o (swept (serves_at p) n a) λ f. serves p.jobs f (swept (serves_at p) n a))) (sym is) two

turns_are : {S : Type 0} (ways : SideRelations S) (law : StepsAgree) (w : TheWorld) (jobs : List CoreJob) (s t : TheRun S) (a : MachineRun) (n : ℕ)
    → ShowsAlone w s a → Swept (TakesTurn ways jobs) n s t → ShowsAlone w t (swept (takes_turn jobs) n a)
turns_are {S} ways law w jobs s t a zero x u = subst (λ (r : TheRun S). ShowsAlone w r a) (sym u) x
turns_are ways law w jobs s t a (suc n) x (m, before, step) =
    let one = turns_are ways law w jobs s m a n x before in
    turn_are ways law w jobs m t (swept (takes_turn jobs) n a) n one step

-- ---- a turn

first_half : {S : Type 0} (ways : SideRelations S) (plan : TurnPlan) (jobs : List CoreJob) (s t : TheRun S) (h : OneTurn ways plan jobs s t) → s.core.link_sides ≡ [] → h.said ≡ s
first_half {S} ways plan jobs s t h link_sides =
    let one : h.forwarded ≡ s = still_swept (At plan.links.items (Forwards ways)) s (forwards_nothing ways plan.links.items s link_sides)
    (length plan.links.items) h.forwarded h.forwards in
    still_swept (At plan.links.items (Says ways)) s (says_nothing ways plan.links.items s link_sides) (length plan.links.items) h.said
    (subst (λ (r : TheRun S). Swept (At plan.links.items (Says ways)) (length plan.links.items) r h.said) one h.says)

-- the core behind the turns of dispatchers is the core behind the whole turn
second_half : {S : Type 0} (ways : SideRelations S) (plan : TurnPlan) (jobs : List CoreJob) (s t : TheRun S) (h : OneTurn ways plan jobs s t)
    → h.turned.core.link_sides ≡ [] → h.turned.rings ≡ []
    → t ≡ h.turned
second_half {S} ways plan jobs s t h link_sides rings =
    let one : h.told ≡ h.turned
    = still_swept (At plan.links.items (Tells ways)) h.turned (tells_nothing ways plan.links.items h.turned link_sides) (length plan.links.items) h.told h.tells in
    still_swept (At plan.ends.items (Acknowledges ways)) h.turned (acks_nothing ways plan.ends.items h.turned rings) (length plan.ends.items) t
    (subst (λ (r : TheRun S). Swept (At plan.ends.items (Acknowledges ways)) (length plan.ends.items) r t) one h.acks)

pub round_are : {S : Type 0} (ways : SideRelations S) (law : StepsAgree) (w : TheWorld) (plan : TurnPlan) (jobs : List CoreJob) (s t : TheRun S) (a : MachineRun)
    → ShowsAlone w s a → OneTurn ways plan jobs s t → ShowsAlone w t (one_turn (work_of plan jobs) a)
round_are {S} ways law w plan jobs s t a x h =
    let said : h.said ≡ s = first_half ways plan jobs s t h x.no_links in
    let serves : Swept (At plan.ends.items (Serves ways jobs)) (length plan.ends.items) s h.served
    = subst (λ (r : TheRun S). Swept (At plan.ends.items (Serves ways jobs)) (length plan.ends.items) r h.served) said h.serves in
    let one = served_are ways law w (work_of plan jobs) s h.served a (length plan.ends.items) x serves in
    let two = turns_are ways law w jobs h.served h.turned (swept (serves_at (work_of plan jobs)) (length plan.ends.items) a) plan.dispatchers one h.turns in
    subst (λ (r : TheRun S). ShowsAlone w r (one_turn (work_of plan jobs) a)) (sym (second_half ways plan jobs s t h two.no_links two.no_rings)) two

-- ---- turns in a row

pub rounds_are : {S : Type 0} (ways : SideRelations S) (law : StepsAgree) (w : TheWorld) (plan : TurnPlan) (jobs : List CoreJob) (n : ℕ) (s t : TheRun S) (a : MachineRun)
    → ShowsAlone w s a → Turned ways plan jobs n s t → ShowsAlone w t (turned (work_of plan jobs) n a)
rounds_are {S} ways law w plan jobs zero s t a x u = subst (λ (r : TheRun S). ShowsAlone w r a) (sym u) x
rounds_are ways law w plan jobs (suc n) s t a x (m, before, step) =
    let one = rounds_are ways law w plan jobs n s m a x before in
    round_are ways law w plan jobs m t (turned (work_of plan jobs) n a) one step
