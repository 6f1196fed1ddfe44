use Rattle.std.proofs.Common.{refl}
use Rattle.fl_interface.specs.Interface.{scalar}
use Rattle.fl_value_tape.proofs.Elements.{no_elements}
use Rattle.fl_value_tape.proofs.packing.push_each.Goals as goal

pub loop-value-init : goal.loop-value-init
loop-value-init c = refl

pub returns : goal.returns
returns c = record { packed = no_elements (scalar c.args.kind) c.loop-value.value-index c.args.values.now c.loop-value.out.items _ c.loop-value-test.false c.loop-value.invariant }
