use Rattle.std.proofs.Common.{◌≡◌, ◌++◌, Some, take, slice_get, sym, ◌∙◌, arith}
use Rattle.fl_machine.specs.Straight.{straight_behind}
use Rattle.fl_machine.proofs.Intakes.{behind_more}
use Rattle.fl_machine.proofs.Straights.{straight_takes, straight_narrow, straight_wide, straight_on}
use Rattle.fl_machine.proofs.intake.RecvCursor.take_number.Goals as goal

pub straight_number-requires-clause-taken : goal.straight_number-requires-clause-taken
straight_number-requires-clause-taken c straight =
    let (before, all, phase, fed) = c.requires.fed in
    let there : slice_get c.args.ops.now c.args.place ≡ Some c.in-Some.op = sym c.op_at.ensures ∙ c.in-Some.is in
    straight_takes c.args.ops.now (straight_behind c.args.self.now c.args.place c.args.count phase) c.in-Some.op there straight fed.at.stance

pub straight_number-requires-clause-narrow : goal.straight_number-requires-clause-narrow
straight_number-requires-clause-narrow c f straight view =
    let (before, all, phase, fed) = c.requires.fed in
    let there : slice_get c.args.ops.now c.args.place ≡ Some c.in-Some.op = sym c.op_at.ensures ∙ c.in-Some.is in
    straight_narrow c.args.ops.now (before ++ take c.args.count c.args.tape.now) (straight_behind c.args.self.now c.args.place c.args.count phase) all _ c.in-Some.op f there straight fed view

pub returns-clause-fed : goal.returns-clause-fed
returns-clause-fed c before all phase fed =
    let there : slice_get c.args.ops.now c.args.place ≡ Some c.in-Some.op = sym c.op_at.ensures ∙ c.in-Some.is in
    let e = c.in-Some-straight_number.ensures in
    straight_on c.args.ops.now (before ++ take c.args.count c.args.tape.now) (before ++ take c.in-Some-put_on.more c.put_on.new.tape) all c.args.buffer.now c.args.self.now
    c.args.place c.args.count c.in-Some-put_on.more c.args.used phase c.in-Some.op c.in-Some-straight_number.field c.in-Some-straight_number.number
    fed there e.straight e.field e.number
    (behind_more before (take c.args.count c.args.tape.now) (take c.in-Some-put_on.more c.put_on.new.tape) _ c.in-Some-put_on.ensures.tape)

pub returns-clause-end : goal.returns-clause-end
returns-clause-end c =
    let (before, all, phase, fed) = c.requires.fed in
    let there : slice_get c.args.ops.now c.args.place ≡ Some c.in-Some.op = sym c.op_at.ensures ∙ c.in-Some.is in
    let e = c.in-Some-straight_number.ensures in
    let some = straight_wide c.args.ops.now (before ++ take c.args.count c.args.tape.now) (straight_behind c.args.self.now c.args.place c.args.count phase) all _
    c.in-Some.op c.in-Some-straight_number.field there e.straight fed e.field in
    (omega (arith, some), e.number.inside)

pub returns-clause-more : goal.returns-clause-more
returns-clause-more c =
    let (before, all, phase, fed) = c.requires.fed in
    let there : slice_get c.args.ops.now c.args.place ≡ Some c.in-Some.op = sym c.op_at.ensures ∙ c.in-Some.is in
    let e = c.in-Some-straight_number.ensures in
    let some = straight_wide c.args.ops.now (before ++ take c.args.count c.args.tape.now) (straight_behind c.args.self.now c.args.place c.args.count phase) all _
    c.in-Some.op c.in-Some-straight_number.field there e.straight fed e.field in
    let more = c.in-Some-put_on.ensures.more in
    let least = more.0 in
    let most = more.1 in
    (least, omega (arith, some, most), more.2)
