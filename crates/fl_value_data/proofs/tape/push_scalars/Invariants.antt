use Rattle.std.proofs.Common.{◌≡◌, ◌++◌, drop, map}
use Rattle.fl_interface.specs.Interface.{scalar}
use Rattle.fl_value_data.specs.Value.{datum_of, data_from}
use Rattle.fl_value_data.specs.Tape.{elements_tape}
use Rattle.fl_value_data.proofs.tape.push_scalars.Given as goal

abbrev pub invariant-loop-value : goal.invariant-loop-value
invariant-loop-value l =
    l.tape.items ++ elements_tape (scalar l.fn.kind) (data_from (map datum_of (drop l.value-index l.values))) ≡ l.fn.tape.items ++ elements_tape (scalar l.fn.kind) (data_from (map datum_of l.values))
