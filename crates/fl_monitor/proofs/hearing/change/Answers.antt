use Rattle.fl_monitor.proofs.Outcomes.{on_err, err_so, opening_said, opened_waits, refused_waits}
use Rattle.fl_monitor.proofs.hearing.change.Goals as goal

pub returns-in-OpenCircuit-clause-memory : goal.returns-in-OpenCircuit-clause-memory
returns-in-OpenCircuit-clause-memory c =
    on_err c.take_opening.result _ (λ k h. opening_said k c.args.circuits.now c.args.link c.args.message.now c.args.heard _ _ _ _ c.in-OpenCircuit.is h)

pub returns-in-CircuitOpened-clause-memory : goal.returns-in-CircuitOpened-clause-memory
returns-in-CircuitOpened-clause-memory c =
    err_so c.note_answer.result _ _ (λ none k h. opened_waits k c.args.circuits.now c.args.link c.args.message.now c.args.heard _ c.in-CircuitOpened.is none h) c.note_answer.ensures.misrouted

pub returns-in-CircuitRefused-clause-memory : goal.returns-in-CircuitRefused-clause-memory
returns-in-CircuitRefused-clause-memory c =
    err_so c.remove.result _ _ (λ none k h. refused_waits k c.args.circuits.now c.args.link c.args.message.now c.args.heard _ _ c.in-CircuitRefused.is none h) c.remove.ensures.misrouted
