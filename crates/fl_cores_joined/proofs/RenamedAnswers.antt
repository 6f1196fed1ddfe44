-- Answers under other numbers of bindings.
use Rattle.std.proofs.Common.{◌≡◌, ℕ, refl}
use Rattle.fl_base.specs.declared.identity.EndId.{EndId}
use Rattle.fl_core.specs.declared.answer.MonitorAnswer.{MonitorAnswer}
use Rattle.fl_core.specs.declared.answer.MonitorWrite.{MonitorWrite}
use Rattle.fl_core.specs.declared.board_fault.BoardFault.{BoardFault}
use Rattle.fl_core.specs.declared.fault.LinkReceiveFault.{LinkReceiveFault}
use Rattle.fl_core.specs.declared.fault.OpenFault.{OpenFault}
use Rattle.fl_core.specs.declared.turn_answer.AckAnswer.{AckAnswer}
use Rattle.fl_core.specs.declared.turn_answer.TurnAnswer.{TurnAnswer}
use Rattle.fl_core_run.specs.Steps.{lacks_to_hear}
use Rattle.fl_endpoint.specs.declared.answer.WriteAnswer.{WriteAnswer}
use Rattle.fl_endpoint.specs.declared.fault.EndFault.{EndFault}
use Rattle.fl_hop.specs.declared.forward.ForwardOutcome.{ForwardOutcome}
use Rattle.std.specs.Prelude.{Err, Ok, Result}
use Rattle.fl_core.specs.declared.answer.MonitorAnswer.TheVariants as answered
use Rattle.fl_core.specs.declared.answer.MonitorWrite.TheVariants as said_as
use Rattle.fl_core.specs.declared.turn_answer.AckAnswer.TheVariants as ack
use Rattle.fl_core.specs.declared.turn_answer.TurnAnswer.TheVariants as turn
use Rattle.fl_endpoint.specs.declared.answer.WriteAnswer.TheVariants as wrote_as
use Rattle.fl_hop.specs.declared.forward.ForwardOutcome.TheVariants as outcome
use Rattle.fl_world_refines.specs.Taking.{turn_answer}
use Rattle.fl_world_refines.specs.Linking.{write_answer as monitor_answer, ack_answer, moved_answer}
use Rattle.fl_cores_joined.specs.Steps.{call_answer, rule_answer, write_answer, acked_answer, opened_answer, arrival_answer, heard_answer}
use Rattle.fl_cores_joined.specs.Renamed.{Renaming, end_under, heard_under}
use Rattle.fl_cores_joined.specs.RenamedRuns.{answer_under}

module _ (r : Renaming) where
  pub said_same : (a : MonitorWrite) → answer_under r (monitor_answer a) ≡ monitor_answer a
  said_same said_as.Written = refl
  said_same said_as.Full = refl
  said_same said_as.Spent = refl
  said_same said_as.Nothing = refl

  pub ack_same : (a : AckAnswer) → answer_under r (ack_answer a) ≡ ack_answer a
  ack_same ack.Done = refl
  ack_same ack.Nothing = refl
  ack_same ack.Full = refl

  pub acked_same : (a : Result AckAnswer BoardFault) → answer_under r (acked_answer a) ≡ acked_answer a
  acked_same (Ok a) = ack_same a
  acked_same (Err fault) = refl

  pub call_same : (a : Result (Unit {0}) EndFault) → answer_under r (call_answer a) ≡ call_answer a
  call_same (Ok done) = refl
  call_same (Err fault) = refl

  pub rule_same : (a : Result (Unit {0}) EndFault) → answer_under r (rule_answer a) ≡ rule_answer a
  rule_same (Ok done) = refl
  rule_same (Err fault) = refl

  pub write_same : (a : Result WriteAnswer EndFault) → answer_under r (write_answer a) ≡ write_answer a
  write_same (Ok (wrote_as.Written number count)) = refl
  write_same (Ok wrote_as.Full) = refl
  write_same (Ok wrote_as.Nothing) = refl
  write_same (Err fault) = refl

  pub opened_same : (a : Result ℕ OpenFault) → answer_under r (opened_answer a) ≡ opened_answer a
  opened_same (Ok e) = refl
  opened_same (Err fault) = refl

  pub moved_same : (o : ForwardOutcome) → answer_under r (moved_answer o) ≡ moved_answer o
  moved_same outcome.Moved = refl
  moved_same outcome.Full = refl
  moved_same outcome.Spent = refl

  pub arrival_same : (a : Result ForwardOutcome LinkReceiveFault) → answer_under r (arrival_answer a) ≡ arrival_answer a
  arrival_same (Ok o) = moved_same o
  arrival_same (Err fault) = refl

  pub turn_there : (name : EndId) (a : TurnAnswer) → answer_under r (turn_answer name a) ≡ turn_answer (end_under r name) a
  turn_there name (turn.Handle call) = refl
  turn_there name turn.Part = refl
  turn_there name turn.Ready = refl
  turn_there name turn.Quiet = refl
  turn_there name turn.Full = refl
  turn_there name turn.Nothing = refl
  turn_there name (turn.Refused fault) = refl

  pub heard_there : (a : Result MonitorAnswer LinkReceiveFault) → answer_under r (heard_answer a) ≡ heard_answer (heard_under r a)
  heard_there (Ok answered.Full) = refl
  heard_there (Ok answered.Done) = refl
  heard_there (Ok (answered.Opened e)) = refl
  heard_there (Ok (answered.OpeningRefused e reason)) = refl
  heard_there (Err fault) = refl

  -- memory is wanting alike
  pub lacks_there : (a : Result MonitorAnswer LinkReceiveFault) → lacks_to_hear (heard_under r a) ≡ lacks_to_hear a
  lacks_there (Ok a) = refl
  lacks_there (Err fault) = refl
