use Rattle.std.proofs.Common.{List, ℕ, ◌++◌, map, ap}
use Rattle.fl_interface.specs.Interface.{scalar}
use Rattle.fl_value_data.specs.Value.{datum_of, data_from}
use Rattle.fl_value_data.specs.Tape.{elements_tape}
use Rattle.fl_value_data.proofs.Numbers.{no_elements}
use Rattle.fl_value_data.proofs.tape.push_scalars.Goals as goal

pub loop-value-init : goal.loop-value-init
loop-value-init c = ap (λ (xs : List ℕ). xs ++ elements_tape (scalar c.args.kind) (data_from (map datum_of c.args.values.now))) c.in_ok-reserve.ensures.items

pub returns : goal.returns
returns c = record { tape = no_elements (scalar c.args.kind) c.loop-value.value-index c.args.values.now c.loop-value.tape.items _ c.loop-value-test.false c.loop-value.invariant }
