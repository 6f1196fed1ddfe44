-- The events of which a core's turns were made, in their order, and no others, each with the core as it was
-- behind it.
use mathlib.Core.Logic.{inl, inr}
use Rattle.std.specs.Prelude.{ℕ, zero, suc, Bool, true, false, List, [], ◌∷◌, ◌++◌, length, Option, Some}
use Rattle.std.specs.Prelude.{None, Result, Ok}
use Rattle.fl_base.specs.declared.identity.EndId.{EndId}
use Rattle.fl_base.specs.declared.identity.LinkId.{LinkId}
use Rattle.fl_value_data.specs.declared.value.Call.{Call}
use Rattle.fl_value_data.specs.Value.{call_of}
use Rattle.fl_core.specs.declared.answer.LinkFront.{LinkFront}
use Rattle.fl_core.specs.declared.answer.LinkFront.TheVariants.{Message, Onward, Arrival}
use Rattle.fl_core.specs.declared.fault.LinkReceiveFault.{LinkReceiveFault}
use Rattle.fl_core.specs.declared.core_job.OpenRequest.{OpenRequest}
use Rattle.fl_core.specs.declared.core_job.CoreJob.{CoreJob}
use Rattle.fl_core.specs.declared.core_job.CoreJob.TheVariants as job
use Rattle.fl_core.specs.View.{place_of}
use Rattle.fl_core_run.specs.declared.lent.LentTakeEnd.{LentTakeEnd}
use Rattle.fl_core_run.specs.declared.lent.LentPutEnd.{LentPutEnd}
use Rattle.fl_core_run.specs.declared.lent.LentRingEnd.{LentRingEnd}
use Rattle.fl_core_run.specs.declared.plan.TurnPlan.{TurnPlan}
use Rattle.fl_core_run.specs.Run.{SideRelations, TheRun, next_job, lent_link_side, lent_post, lent_due}
use Rattle.fl_core_run.specs.Run.{lent_ring_end}
use Rattle.fl_core_run.specs.LogEntries.{LogEntry, looked, passed, arrived, heard, said, told, opened, called}
use Rattle.fl_core_run.specs.LogEntries.{ruled, wrote, acked, turned}
use Rattle.fl_core_run.specs.Steps.{HandsOut, ForwardsOver, Forwards, SaysOver, Says, TellsOver, Tells}
use Rattle.fl_core_run.specs.Steps.{may_ask, OpensIf, CallsAt}
use Rattle.fl_core_run.specs.Steps.{ReplyRule, reply_rule, RulesAt, Tries, WritesFrom, Serves, AcksFrom}
use Rattle.fl_core_run.specs.Steps.{Acknowledges}
use Rattle.fl_core_run.specs.Steps.{awaits, DueTurn, due_turn, TurnsIf, TurnsAt, TakesTurn}
use Rattle.fl_core_run.specs.Turn.{Swept, At, OneTurn, Turned}

-- ---- events

-- an event, and the core behind it
pub record Event (S : Type 0) : Type 0 where
  pub log_entry : LogEntry
  pub run : TheRun S

abbrev pub event : {S : Type 0} → LogEntry → TheRun S → Event S
event log_entry run = record { log_entry = log_entry; run = run }

-- the log of events
abbrev pub log_of : {S : Type 0} → List (Event S) → List LogEntry
log_of [] = []
log_of (x ∷ xs) = x.log_entry ∷ log_of xs

-- ---- steps in a row

-- the events of so many steps, by those of each
abbrev pub swept_events : {S R : Type 0} (step : ℕ → S → S → Type 0)
    (events : (n : ℕ) (s t : S) → step n s t → List (Event R))
    (k : ℕ) (s t : S) → Swept step k s t → List (Event R)
swept_events step events zero s t h = []
swept_events step events (suc k) s t h = swept_events step events k s h.0 h.1 ++ events k h.0 t h.2

-- and of a step for each thing of a list
abbrev pub each_events : {X S R : Type 0} (xs : List X) (step : X → S → S → Type 0)
    (events : (x : X) (s t : S) → step x s t → List (Event R))
    (k : ℕ) (s t : S) → Swept (At xs step) k s t → List (Event R)
each_events xs step events k s t h = swept_events (At xs step) (λ n u v one. events one.0 u v one.2) k s t h

module _ {S : Type 0} (w : SideRelations S) (jobs : List CoreJob) where
  -- ---- for a link

  -- what a look found was heard, passed on, or brought to an end
  abbrev pub handed_events : (n : ℕ) (l : LinkId)
      (found : Result LinkFront LinkReceiveFault) (s t : TheRun S) → HandsOut w n l found s t
      → List (Event S)
  handed_events n l (Ok (Message frag)) s t h = event (heard n l frag h.0) t ∷ []
  handed_events n l (Ok (Onward frag to c)) s t (inl h) = event (passed n to frag c h.0) t ∷ []
  handed_events n l (Ok (Onward frag to c)) s t (inr h) = []
  handed_events n l (Ok (Arrival frag e)) s t h = event (arrived n l frag e h.0) t ∷ []
  handed_events n l found s t h = []

  -- a forward, a monitor write and an acknowledgement, over the side of the link, where that is lent
  abbrev pub forward_events : (l : LinkId) (o : Option ℕ) (s t : TheRun S) → ForwardsOver w l o s t
      → List (Event S)
  forward_events l None s t h = []
  forward_events l (Some n) s t h = event (looked n l h.0) h.1 ∷ handed_events n l h.0 h.1 t h.3

  abbrev pub said_events : (l : LinkId) (o : Option ℕ) (s t : TheRun S) → SaysOver w l o s t → List (Event S)
  said_events l None s t h = []
  said_events l (Some n) s t h = event (said n l h.0) t ∷ []

  abbrev pub told_events : (l : LinkId) (o : Option ℕ) (s t : TheRun S) → TellsOver w l o s t → List (Event S)
  told_events l None s t h = []
  told_events l (Some n) s t h = event (told n l h.0) t ∷ []

  -- ---- for an end

  -- its next job, where it could be done: an opening, a call, a reply rule
  abbrev pub opened_events : (b : Bool) (name : EndId) (request : OpenRequest) (s t : TheRun S)
      → OpensIf w b name request s t → List (Event S)
  opened_events false name request s t h = []
  opened_events true name request s t h = event (opened name request h.0) t ∷ []

  abbrev pub called_events : (name : EndId) (call : Call) (o : Option ℕ) (s t : TheRun S)
      → CallsAt w name call o s t → List (Event S)
  called_events name call None s t h = []
  called_events name call (Some e) s t h = event (called name (call_of call) h.0) t ∷ []

  abbrev pub ruled_events : (x : ReplyRule) (o : Option ℕ) (s t : TheRun S) → RulesAt w x o s t
      → List (Event S)
  ruled_events x None s t h = []
  ruled_events x (Some e) s t h = event (ruled x.end x.message x.reply h.0) t ∷ []

  abbrev pub tried_events : (name : EndId) (o : Option CoreJob) (s t : TheRun S) → Tries w name o s t
      → List (Event S)
  tried_events name None s t h = []
  tried_events name (Some (job.Open request)) s t h = opened_events (may_ask s request) name request s t h
  tried_events name (Some (job.Call e call)) s t h = called_events name call (place_of s.core name) s t h
  tried_events name (Some (job.Reply e msg reply)) s t h =
      ruled_events (reply_rule name msg reply) (place_of s.core name) s t h

  -- a write, to where the end puts, where that is lent
  abbrev pub wrote_events : (name : EndId) (o : Option LentPutEnd) (s t : TheRun S)
      → WritesFrom w name o s t → List (Event S)
  wrote_events name None s t h = []
  wrote_events name (Some post) s t h = event (wrote name post.outlet h.0) t ∷ []

  abbrev pub served_events : (name : EndId) (s t : TheRun S) → Serves w jobs name s t → List (Event S)
  served_events name s t h =
      tried_events name (next_job jobs s name) s h.0 h.1 ++ wrote_events name (lent_post h.0 name) h.0 t h.2

  -- an acknowledgement, where the end is a ring's
  abbrev pub acked_events : (name : EndId) (o : Option LentRingEnd) (s t : TheRun S)
      → AcksFrom w name o s t → List (Event S)
  acked_events name None s t h = []
  acked_events name (Some ring_end) s t h = event (acked name ring_end.side h.0) t ∷ []

  -- ---- for a dispatcher

  -- its turn, where one is due, at an end that awaits nothing
  abbrev pub turned_if_events : (b : Bool) (x : DueTurn) (s t : TheRun S) → TurnsIf w b x s t → List (Event S)
  turned_if_events true x s t h = []
  turned_if_events false x s t h = event (turned x.dispatcher x.name x.due.inlet h.0) t ∷ []

  abbrev pub turned_events : (d : ℕ) (o : Option LentTakeEnd) (s t : TheRun S) → TurnsAt w jobs d o s t
      → List (Event S)
  turned_events d None s t h = []
  turned_events d (Some due) s t h = turned_if_events (awaits jobs s h.0) (due_turn d h.0 due) s t h.2

  -- ---- turns

  -- a forward for each link; a monitor write for each; for each end its next job and a write; a turn for each
  -- dispatcher; an acknowledgement for each link, and for each end of a ring
  abbrev pub turn_events : (plan : TurnPlan) (s t : TheRun S) → OneTurn w plan jobs s t → List (Event S)
  turn_events plan s t h =
      each_events plan.links.items (Forwards w) (λ l u v one. forward_events l (lent_link_side u l) u v one)
      (length plan.links.items) s h.forwarded h.forwards
      ++ (each_events plan.links.items (Says w) (λ l u v one. said_events l (lent_link_side u l) u v one)
      (length plan.links.items) h.forwarded h.said h.says
      ++ (each_events plan.ends.items (Serves w jobs) served_events
      (length plan.ends.items) h.said h.served h.serves
      ++ (swept_events (TakesTurn w jobs) (λ d u v one. turned_events d (lent_due u d) u v one)
      plan.dispatchers h.served h.turned h.turns
      ++ (each_events plan.links.items (Tells w) (λ l u v one. told_events l (lent_link_side u l) u v one)
      (length plan.links.items) h.turned h.told h.tells
      ++ each_events plan.ends.items (Acknowledges w)
      (λ name u v one. acked_events name (lent_ring_end u name) u v one)
      (length plan.ends.items) h.told t h.acks))))

  -- so many turns
  abbrev pub events_of : (plan : TurnPlan) (k : ℕ) (s t : TheRun S) → Turned w plan jobs k s t
      → List (Event S)
  events_of plan k s t h =
      swept_events (λ n. OneTurn w plan jobs) (λ n u v one. turn_events plan u v one) k s t h
