use Rattle.std.proofs.Common.{◌-◌, length, take, refl, rules, arith}
use Rattle.fl_stub_steps.proofs.Plain.{last_align}
use Rattle.fl_stub_steps.proofs.give.without_align.Goals as goal

pub returns : goal.returns
returns c = λ all packed.
    let steps = c.args.steps.now in
    let last = length steps - 1 in
    last_align steps (take last steps) last c.index-steps-count.result (omega (arith, c.if-count-eq0.false)) (omega (arith, c.if-count-eq0.false)) c.index-steps-count.is
    (c.is_align.ensures (search (rules, c.if-not-is_align.false))) refl all packed
