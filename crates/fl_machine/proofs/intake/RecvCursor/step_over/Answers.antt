use Rattle.fl_stub.specs.declared.op.Column.TheVariants.{Receive}
use Rattle.fl_machine.proofs.Intakes.{over_step, over_none, over_turns, length_deep}
use Rattle.fl_machine.proofs.intake.RecvCursor.step_over.Goals as goal

pub returns-then-not-is_length : goal.returns-then-not-is_length
returns-then-not-is_length c = over_step c.args.ops.now c.args.self.now c.args.field c.args.number c.requires.field c.requires.stance (c.is_length.ensures.no c.if-not-is_length.true)

pub returns-then-number-eq0 : goal.returns-then-number-eq0
returns-then-number-eq0 c =
    over_none c.args.ops.now c.args.self.now c.args.field c.args.number c.behind-self.result c.requires.field c.requires.stance (c.is_length.ensures.yes c.if-not-is_length.false) c.if-number-eq0.true
    (c.behind-self.ensures.place Receive) (c.behind-self.ensures.frames Receive)

pub enter-requires : goal.enter-requires
enter-requires c = length_deep c.args.ops.now c.args.self.now c.args.field c.requires.field c.requires.stance (c.is_length.ensures.yes c.if-not-is_length.false)

pub returns : goal.returns
returns c =
    over_turns c.args.ops.now c.args.self.now c.enter.new.self c.args.field c.args.number c.requires.field c.requires.stance (c.is_length.ensures.yes c.if-not-is_length.false) c.if-number-eq0.false
    c.enter.ensures.loops c.enter.ensures.others
