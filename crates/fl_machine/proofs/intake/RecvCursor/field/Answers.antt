use Rattle.std.proofs.Common.{sym, ◌∙◌, ◌≡◌, Some, slice_get}
use Rattle.fl_machine.proofs.Intakes.{takes_here, has_field, at_last, not_there}
use Rattle.fl_machine.proofs.intake.RecvCursor.field.Goals as goal

pub of-requires : goal.of-requires
of-requires c =
    let there : slice_get c.args.ops.now c.args.self.now.place ≡ Some c.in-Some.op = sym c.op_at.ensures ∙ c.in-Some.is in
    (takes_here c.args.ops.now c.args.self.now c.in-Some.op there c.requires.stance c.requires.settled (c.is_last.ensures.no c.if-is_last.false)).taken

pub returns-clause-some : goal.returns-clause-some
returns-clause-some c =
    let there : slice_get c.args.ops.now c.args.self.now.place ≡ Some c.in-Some.op = sym c.op_at.ensures ∙ c.in-Some.is in
    has_field c.args.ops.now c.args.self.now c.in-Some.op c.of.result there c.requires.stance c.requires.settled (c.is_last.ensures.no c.if-is_last.false) c.of.ensures

pub returns-in_default-clause-none : goal.returns-in_default-clause-none
returns-in_default-clause-none c at = absurd (not_there c.args.ops.now c.args.self.now (sym c.op_at.ensures ∙ c.in_default.is) c.requires.stance)

pub returns-then-is_last-clause-none : goal.returns-then-is_last-clause-none
returns-then-is_last-clause-none c =
    at_last c.args.ops.now c.args.self.now c.in-Some.op (sym c.op_at.ensures ∙ c.in-Some.is) c.requires.stance (c.is_last.ensures.yes c.if-is_last.true)
