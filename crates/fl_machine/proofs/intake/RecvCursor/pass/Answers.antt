use Rattle.std.proofs.Common.{sym, ◌≡◌, ◌∙◌, ap, Some, slice_get}
use Rattle.std.proofs.lemmas.Bool.{false≢true}
use Rattle.fl_stub.specs.declared.op.Op.{Op}
use Rattle.fl_machine.proofs.Intakes.{aligns}
use Rattle.fl_machine.proofs.intake.RecvCursor.pass.Goals as goal

pub returns-else-self-ne0-clause-passes : goal.returns-else-self-ne0-clause-passes
returns-else-self-ne0-clause-passes c so =
    let there : slice_get c.args.ops.now c.args.self.now.place ≡ Some c.in-Some.op = sym c.op_at.ensures ∙ c.in-Some.is in
    aligns c.args.ops.now c.args.self.now (there ∙ ap (λ (o : Op). Some o) c.in-Align.is) c.requires c.if-self-ne0.false

pub returns-in-Times : goal.returns-in-Times
returns-in-Times c = record { passes = λ _. c.repeat.ensures; stays = λ e. absurd (false≢true (sym e)); settled = λ e. absurd (false≢true (sym e)) }

pub returns-in-Back : goal.returns-in-Back
returns-in-Back c = record { passes = λ _. c.turn.ensures; stays = λ e. absurd (false≢true (sym e)); settled = λ e. absurd (false≢true (sym e)) }
