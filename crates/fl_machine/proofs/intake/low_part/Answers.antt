use Rattle.std.proofs.Common.{arith}
use Rattle.fl_stub.proofs.Numbers.{pow_positive}
use Rattle.fl_machine.proofs.intake.low_part.Goals as goal

pub nonzero_rem-result : goal.nonzero_rem-result
nonzero_rem-result c = omega (arith, pow_positive c.args.bytes, c.power.ensures)
