use Rattle.std.proofs.Common.{◌≡◌, ◌-◌, ◌++◌, take, ◌∙◌, ap, arith}
use Rattle.fl_machine.specs.declared.intake.RecvCursor.{RecvCursor}
use Rattle.fl_machine.proofs.Intakes.{here_of, too_high, too_low, cut_here, room_told, whole_here, same_field, same_stance, behind_more}
use Rattle.fl_machine.proofs.intake.RecvCursor.take_field.Goals as goal

pub grow-number-requires-clause-less : goal.grow-number-requires-clause-less
grow-number-requires-clause-less c = let (before, all, fed) = c.requires.fed in (here_of c.args.ops.now _ c.args.self.now all _ c.args.field fed c.requires.field).less

pub grow-number-requires-clause-narrow : goal.grow-number-requires-clause-narrow
grow-number-requires-clause-narrow c = let (before, all, fed) = c.requires.fed in (here_of c.args.ops.now _ c.args.self.now all _ c.args.field fed c.requires.field).reach.sound.0.width

pub grow-number-requires-clause-small : goal.grow-number-requires-clause-small
grow-number-requires-clause-small c = let (before, all, fed) = c.requires.fed in (here_of c.args.ops.now _ c.args.self.now all _ c.args.field fed c.requires.field).small

pub returns-then-number-field-clause-wrong : goal.returns-then-number-field-clause-wrong
returns-then-number-field-clause-wrong c before all fed =
    too_high c.args.ops.now _ c.args.self.now all _ _ c.args.field c.grow-number.result.0 c.grow-number.result.1 fed c.requires.field c.grow-number.ensures.grows c.grow-number.ensures.within c.if-number-field.true

pub returns-then-self-there-clause-fed : goal.returns-then-self-there-clause-fed
returns-then-self-there-clause-fed c before all fed =
    cut_here c.args.ops.now _ c.args.self.now all _ _ c.args.field c.grow-number.result.0 c.grow-number.result.1 fed c.requires.field c.requires.settled c.grow-number.ensures.grows c.if-self-there.true c.if-number-field.false

pub returns-then-number-field-2-clause-wrong : goal.returns-then-number-field-2-clause-wrong
returns-then-number-field-2-clause-wrong c before all fed =
    let within = c.grow-number.ensures.within in
    let past = c.if-self-there.false in
    too_low c.args.ops.now _ c.args.self.now all _ _ c.args.field c.grow-number.result.0 c.grow-number.result.1 fed c.requires.field c.grow-number.ensures.grows (omega (arith, within, past)) c.if-number-field.false c.if-number-field-2.true

pub tell-requires : goal.tell-requires
tell-requires c so =
    let (before, all, fed) = c.requires.fed in
    let less = c.requires.room in
    room_told c.args.ops.now before c.args.tape.now c.args.self.now all _ c.args.field c.grow-number.result.0 (56 - c.args.used) fed c.requires.field c.if-number-field-2.false c.if-number-field.false c.requires.count c.requires.tape (omega (arith, less)) so

pub step_over-requires-clause-stance : goal.step_over-requires-clause-stance
step_over-requires-clause-stance c = let (before, all, fed) = c.requires.fed in same_stance c.args.ops.now c.args.self.now c.tell.new.self fed.at.stance c.tell.ensures.others

pub step_over-requires-clause-field : goal.step_over-requires-clause-field
step_over-requires-clause-field c = same_field c.args.ops.now c.args.self.now c.tell.new.self c.args.field c.requires.field c.tell.ensures.others

pub step_over-requires-clause-narrow : goal.step_over-requires-clause-narrow
step_over-requires-clause-narrow c = let (before, all, fed) = c.requires.fed in (here_of c.args.ops.now _ c.args.self.now all _ c.args.field fed c.requires.field).reach.sound.0.width

pub returns-clause-fed : goal.returns-clause-fed
returns-clause-fed c before all fed =
    let within = c.grow-number.ensures.within in
    let past = c.if-self-there.false in
    let count : c.settle.new.self.count ≡ c.tell.new.self.count = ap RecvCursor.count c.settle.ensures.passes.others ∙ c.step_over.ensures.count in
    whole_here c.args.ops.now (before ++ take c.args.self.now.count c.args.tape.now) _ c.args.self.now c.tell.new.self c.step_over.new.self c.settle.new.self all _ _ c.args.field c.grow-number.result.0 c.grow-number.result.1
    fed c.requires.field c.grow-number.ensures.grows (omega (arith, within, past)) c.if-number-field.false c.if-number-field-2.false c.tell.ensures.others
    (behind_more before (take c.args.self.now.count c.args.tape.now) (take c.settle.new.self.count c.tell.new.tape) _ (ap (λ k. take k c.tell.new.tape) count ∙ c.tell.ensures.tape)) c.step_over.ensures c.settle.ensures.passes
