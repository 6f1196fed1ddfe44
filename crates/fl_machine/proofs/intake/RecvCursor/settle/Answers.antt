use Rattle.std.proofs.Common.{sym, subst}
use Rattle.fl_machine.specs.declared.intake.RecvCursor.{RecvCursor}
use Rattle.fl_machine.specs.Taking.{Passes}
use Rattle.fl_machine.proofs.Intakes.{passes_none, passes_then, passes_fewer}
use Rattle.fl_machine.proofs.intake.RecvCursor.settle.Goals as goal

pub loop-init : goal.loop-init
loop-init c = passes_none c.args.ops.now c.args.self.now c.requires

pub pass-requires : goal.pass-requires
pass-requires c = c.loop.invariant.stance

pub loop-smaller : goal.loop-smaller
loop-smaller c = passes_fewer c.args.ops.now c.loop.self c.pass.new.self (c.pass.ensures.passes c.loop-test.true)

pub loop-preserved : goal.loop-preserved
loop-preserved c = passes_then c.args.ops.now c.args.self.now c.loop.self c.pass.new.self c.loop.invariant (c.pass.ensures.passes c.loop-test.true)

pub returns-clause-passes : goal.returns-clause-passes
returns-clause-passes c = subst (λ (d : RecvCursor). Passes c.args.ops.now c.args.self.now d) (sym (c.pass.ensures.stays c.loop-test.false)) c.loop.invariant
