-- What is noted at ends' progress leaves all else.
use Rattle.std.proofs.Common.{◌≡◌, refl, sym, ap, subst, ℕ, Result, Ok, Err}
use Rattle.fl_base.specs.declared.identity.EndId.{EndId}
use Rattle.fl_core.specs.declared.turn_answer.TurnAnswer.{TurnAnswer}
use Rattle.fl_core.specs.declared.turn_answer.TurnAnswer.TheVariants as turn
use Rattle.fl_endpoint.specs.declared.fault.EndFault.{EndFault}
use Rattle.fl_monitor.specs.declared.fault.MonitorFault.TheVariants as monitor
use Rattle.fl_core.specs.declared.answer.MonitorAnswer.{MonitorAnswer}
use Rattle.fl_core.specs.declared.answer.MonitorAnswer.TheVariants as heard_as
use Rattle.fl_core.specs.declared.fault.LinkReceiveFault.{LinkReceiveFault}
use Rattle.fl_core.specs.declared.fault.OpenFault.{OpenFault}
use Rattle.fl_core.specs.declared.fault.OpenFault.TheVariants as opening
use Rattle.fl_core_run.specs.Run.{TheRun}
use Rattle.fl_core_run.specs.LogEntries.{LogEntry, looked, passed, arrived, heard, said, told, opened, called, ruled, wrote, acked, turned, NotesHeard, NotesOpened, NotesCalled, NotesTurned, Notes}

module _ {S : Type 0} (m t : TheRun S) where
  -- of the run the ends' progress alone have changed
  abbrev ProgressAlone : Type 0
  ProgressAlone = t ≡ record m { progresses = t.progresses }

  same : t ≡ m → ProgressAlone
  same h = subst (λ (x : TheRun S). x ≡ record m { progresses = x.progresses }) (sym h) refl

  noted_heard : (answer : Result MonitorAnswer LinkReceiveFault) → NotesHeard answer m t → ProgressAlone
  noted_heard (Ok (heard_as.OpeningRefused e reason)) h = h.rest
  noted_heard (Ok heard_as.Full) h = same h
  noted_heard (Ok heard_as.Done) h = same h
  noted_heard (Ok (heard_as.Opened e)) h = same h
  noted_heard (Err fault) h = same h

  noted_opened : (e : EndId) (answer : Result ℕ OpenFault) → NotesOpened e answer m t → ProgressAlone
  noted_opened e (Ok k) h = h.rest
  noted_opened e (Err (opening.Board fault)) h = h.rest
  noted_opened e (Err (opening.Monitor monitor.OutboxFull)) h = same h
  noted_opened e (Err (opening.Monitor monitor.Misrouted)) h = h.rest
  noted_opened e (Err (opening.Monitor monitor.Differs)) h = h.rest
  noted_opened e (Err (opening.Monitor monitor.NoRoute)) h = h.rest
  noted_opened e (Err (opening.Monitor monitor.UsedUp)) h = h.rest
  noted_opened e (Err (opening.Monitor monitor.PlansDiffer)) h = h.rest
  noted_opened e (Err (opening.Monitor monitor.Memory)) h = h.rest

  noted_called : (e : EndId) (answer : Result (Unit {0}) EndFault) → NotesCalled e answer m t → ProgressAlone
  noted_called e (Ok done) h = h.rest
  noted_called e (Err fault) h = same h

  noted_turned : (e : EndId) (answer : TurnAnswer) → NotesTurned e answer m t → ProgressAlone
  noted_turned e (turn.Handle call) h = h.rest
  noted_turned e turn.Part h = same h
  noted_turned e turn.Ready h = same h
  noted_turned e turn.Quiet h = same h
  noted_turned e turn.Full h = same h
  noted_turned e turn.Nothing h = same h
  noted_turned e (turn.Refused fault) h = same h

  pub progresses_alone : (log_entry : LogEntry) → Notes log_entry m t → ProgressAlone
  progresses_alone (looked n l answer) h = same h
  progresses_alone (passed n k frag c outcome) h = same h
  progresses_alone (arrived n l frag e answer) h = same h
  progresses_alone (heard n l frag answer) h = noted_heard answer h
  progresses_alone (said n l answer) h = same h
  progresses_alone (told n l answer) h = same h
  progresses_alone (opened e request answer) h = noted_opened e answer h
  progresses_alone (called e c answer) h = noted_called e answer h
  progresses_alone (ruled e msg reply answer) h = h.rest
  progresses_alone (wrote e out answer) h = same h
  progresses_alone (acked e n answer) h = same h
  progresses_alone (turned d e from answer) h = noted_turned e answer h

  pub rings_aside : (log_entry : LogEntry) → Notes log_entry m t → t.rings ≡ m.rings
  rings_aside log_entry h = ap (λ (x : TheRun S). x.rings) (progresses_alone log_entry h)

  pub queues_aside : (log_entry : LogEntry) → Notes log_entry m t → t.queues ≡ m.queues
  queues_aside log_entry h = ap (λ (x : TheRun S). x.queues) (progresses_alone log_entry h)

  pub core_aside : (log_entry : LogEntry) → Notes log_entry m t → t.core ≡ m.core
  core_aside log_entry h = ap (λ (x : TheRun S). x.core) (progresses_alone log_entry h)
