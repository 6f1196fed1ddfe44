-- The laws of one core by itself. Each is of a core that shows a state of the machine.
use Rattle.std.specs.Prelude.{ℕ, ◌≡◌, ◌≢◌, ◌≤◌, Bool, true, false, List, [], ◌∷◌, length, Some, Result, Err}
use Rattle.fl_base.specs.declared.identity.EndId.{EndId}
use Rattle.fl_base.specs.declared.identity.MsgNo.{MsgNo}
use Rattle.fl_value_data.specs.Value.{TheCall}
use Rattle.fl_endpoint.specs.declared.fault.EndFault.{EndFault}
use Rattle.fl_endpoint.specs.declared.fault.EndFault.TheVariants.{Memory}
use Rattle.fl_endpoint.specs.declared.answer.WriteAnswer.{WriteAnswer}
use Rattle.fl_core.specs.declared.turn_answer.TurnAnswer.{TurnAnswer}
use Rattle.fl_core.specs.declared.wiring.Outlet.{Outlet}
use Rattle.fl_core.specs.declared.wiring.Inlet.{Inlet}
use Rattle.fl_core.specs.View.{place_of, outlet_of, inlet_of}
use Rattle.fl_model.specs.Events.{write, call, reply, turn}
use Rattle.fl_model.specs.Step.{step}
use Rattle.fl_world_refines.specs.View.{TheWorld}
use Rattle.fl_world_refines.specs.Sending.{IsCalled, IsWritten}
use Rattle.fl_world_refines.specs.Taking.{turn_answer, IsRuled}
use Rattle.fl_core.specs.declared.core_job.CoreJob.{CoreJob}
use Rattle.fl_core_run.specs.declared.plan.TurnPlan.{TurnPlan}
use Rattle.fl_core_run.specs.declared.run.RunEnd.{RunEnd}
use Rattle.fl_core_run.specs.declared.run.RunEnd.TheVariants.{Finished, Unfinished, Told}
use Rattle.fl_core_run.specs.declared.run.Part.{Part}
use Rattle.fl_core_run.specs.Run.{SideRelations, TheRun}
use Rattle.fl_core_run.specs.Turn.{Turned}
use Rattle.fl_core_run.specs.Ran.{RunTask, RunMoment, Counted, CoreRan}
use Rattle.fl_core_run.specs.LogEntries.{called, ruled, wrote, turned as had_turn, Happens}
use Rattle.fl_core_refines.specs.AloneTurns.{MachineProgress, MachineRun, goes, calls, rules, here, turns_at, MachineTask}
use Rattle.fl_core_refines.specs.AloneTurns.{turned, is_clear, is_finished, counted, ran as ran_to}
use Rattle.fl_core_refines.specs.AloneShown.{work_of, ShowsAlone, HasFew, AreSilent}

-- ---- events: what an end or a dispatcher does is the machine's step. It answers the same, and afterwards the core shows the machine's next state; and the
-- ends' progress are those that the definition has then. Ends stay where they are

-- a run before an event, and after it
pub record RunChange (S : Type 0) : Type 0 where
  pub before : TheRun S
  pub after : TheRun S

-- a call; out of memory isn't an answer
pub record CallsAsMachine {S : Type 0} (w : TheWorld) (run : RunChange S) (a : MachineRun) (name : EndId) (c : TheCall) (answer : Result
    (Unit {0}) EndFault) : Type 0 where
  pub answers : IsCalled answer (step a.state (call name c)).answer
  pub shows : ShowsAlone w run.after (calls name c a)
  pub places : run.after.core.places ≡ run.before.core.places

abbrev pub CallsAreTheMachines : {S : Type 0} → SideRelations S → Type 0
CallsAreTheMachines {S} ways = (w : TheWorld) (s t : TheRun S) (a : MachineRun) (name : EndId) (c : TheCall) (answer : Result (Unit {0}) EndFault)
    → ShowsAlone w s a → answer ≢ Err Memory → Happens ways (called name c answer) s t → CallsAsMachine w (record { before = s; after = t }) a name c answer

-- a reply rule, which an end is to have: its answer to a message
pub record RuleSetting : Type 0 where
  pub end : EndId
  pub msg : ℕ
  pub answer : ℕ

pub record RulesAsMachine {S : Type 0} (w : TheWorld) (run : RunChange S) (a : MachineRun) (rule : RuleSetting) (r : Result (Unit {0}) EndFault) : Type 0 where
  pub answers : IsRuled r (step a.state (reply rule.end rule.msg rule.answer)).answer
  pub shows : ShowsAlone w run.after (rules rule.end rule.msg rule.answer a)
  pub places : run.after.core.places ≡ run.before.core.places

abbrev pub RulesAreTheMachines : {S : Type 0} → SideRelations S → Type 0
RulesAreTheMachines {S} ways = (w : TheWorld) (s t : TheRun S) (a : MachineRun) (name : EndId) (msg answer : MsgNo) (r : Result (Unit {0}) EndFault)
    → ShowsAlone w s a → Happens ways (ruled name msg answer r) s t
    → RulesAsMachine w (record { before = s; after = t }) a (record { end = name; msg = msg.0; answer = answer.0 }) r

-- a write, to where the end puts
pub record WritesAsMachine {S : Type 0} (w : TheWorld) (run : RunChange S) (a : MachineRun) (name : EndId) (answer : Result WriteAnswer EndFault) : Type 0 where
  pub answers : IsWritten answer (step a.state (write name)).answer
  pub shows : ShowsAlone w run.after (goes (write name) a)
  pub places : run.after.core.places ≡ run.before.core.places

abbrev pub WritesAreTheMachines : {S : Type 0} → SideRelations S → Type 0
WritesAreTheMachines {S} ways = (w : TheWorld) (s t : TheRun S) (a : MachineRun) (name : EndId) (e : ℕ) (out : Outlet) (answer : Result WriteAnswer EndFault)
    → ShowsAlone w s a → place_of s.core name ≡ Some e → outlet_of s.core e ≡ Some out
    → Happens ways (wrote name out answer) s t → WritesAsMachine w (record { before = s; after = t }) a name answer

-- a dispatcher's turn, over where the end that is due takes from
pub record TurnsAsMachine {S : Type 0} (w : TheWorld) (run : RunChange S) (a : MachineRun) (d : ℕ) (name : EndId) (answer : TurnAnswer) : Type 0 where
  pub answers : (step a.state (turn (here d))).answer ≡ turn_answer name answer
  pub shows : ShowsAlone w run.after (turns_at d a)
  pub places : run.after.core.places ≡ run.before.core.places

abbrev pub TurnsAreTheMachines : {S : Type 0} → SideRelations S → Type 0
TurnsAreTheMachines {S} ways = (w : TheWorld) (s t : TheRun S) (a : MachineRun) (d : ℕ) (name : EndId) (e : ℕ) (from : Inlet) (answer : TurnAnswer)
    → ShowsAlone w s a → place_of s.core name ≡ Some e → inlet_of s.core e ≡ Some from
    → Happens ways (had_turn d name from answer) s t → TurnsAsMachine w (record { before = s; after = t }) a d name answer

-- ---- turns

-- so many turns of the core are so many of the machine's
abbrev pub RoundsAreTheMachines : {S : Type 0} → SideRelations S → Type 0
RoundsAreTheMachines {S} ways = (w : TheWorld) (plan : TurnPlan) (jobs : List CoreJob) (n : ℕ) (s t : TheRun S) (a : MachineRun) → ShowsAlone w s a
    → Turned ways plan jobs n s t → ShowsAlone w t (turned (work_of plan jobs) n a)

-- ---- counted turns

-- how it ended, by whether nothing is left to do
abbrev pub end_of : Bool → RunEnd
end_of true = Finished
end_of false = Unfinished

-- as many turns were counted as the definition says; the core shows what these come to, and ended as that says
pub record RanAsMachine {S : Type 0} (w : TheWorld) (t : RunTask) (a : MachineRun) (part : Part) (b : TheRun S) : Type 0 where
  pub turns : part.turns ≡ counted (work_of t.plan t.jobs) t.limit a
  pub shows : ShowsAlone w b (ran_to (work_of t.plan t.jobs) t.limit a)
  pub end : part.end ≡ end_of (is_finished (work_of t.plan t.jobs) (ran_to (work_of t.plan t.jobs) t.limit a))

-- so it is of a core that wasn't told of a stop, where no job opens a binding
abbrev pub CountsAreTheMachines : {S : Type 0} → SideRelations S → Type 0
CountsAreTheMachines {S} ways = (w : TheWorld) (t : RunTask) (s b : RunMoment S) (part : Part) (a : MachineRun) → ShowsAlone w s.run a
    → HasFew t.plan.ends.items → AreSilent t.plan.ends.items s.run_seat.words → part.end ≢ Told → Counted ways t s part b → RanAsMachine w t a part b.run

-- ---- the whole run

-- at the point at which the counted turns came to an end the core shows what these come to, and in the end what so many turns more do
pub record WentAsMachine {S : Type 0} (w : TheWorld) (t : RunTask) (a : MachineRun) (part : Part) (point finish : TheRun S) : Type 0 where
  pub ran : RanAsMachine w t a part point
  pub more : ℕ
  pub shows : ShowsAlone w finish (turned (work_of t.plan t.jobs) more (ran_to (work_of t.plan t.jobs) t.limit a))

abbrev pub RunsAreTheMachines : {S : Type 0} → SideRelations S → Type 0
RunsAreTheMachines {S} ways = (w : TheWorld) (t : RunTask) (s b : RunMoment S) (part : Part) (a : MachineRun) → ShowsAlone w s.run a
    → HasFew t.plan.ends.items → AreSilent t.plan.ends.items s.run_seat.words → part.end ≢ Told → (h : CoreRan ways t s part b)
    → WentAsMachine w t a part h.middle.run b.run

-- ---- turns behind those that are counted

abbrev pub EachProgress : (MachineProgress → Type 0) → List MachineProgress → Type 0
EachProgress Holds [] = Unit {0}
EachProgress Holds (d ∷ progresses) = Holds d × EachProgress Holds progresses

abbrev pub IsClear : MachineProgress → Type 0
IsClear d = is_clear (Some d) ≡ true

-- not more is handled than is to be, as it is behind an honest report
abbrev pub HasNoMore : MachineProgress → Type 0
HasNoMore d = length d.handled ≤ d.due

-- where each end's progress is clear, and none has more handled afterwards than is to be, they change no end's progress: what is
-- told of calls is what the counted turns come to
abbrev pub LaterTurnsChangeNothing : Type 0
LaterTurnsChangeNothing = (p : MachineTask) (a : MachineRun) (n : ℕ) → EachProgress IsClear a.progresses
    → EachProgress HasNoMore (turned p n a).progresses → (turned p n a).progresses ≡ a.progresses
