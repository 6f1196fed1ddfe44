use Rattle.std.proofs.Common.{◌≡◌, ◌++◌, drop, map}
use Rattle.fl_interface.specs.Interface.{scalar}
use Rattle.fl_value_data.specs.Value.{datum_of, data_from}
use Rattle.fl_value_tape.specs.Packed.{elements_packed}
use Rattle.fl_value_tape.proofs.packing.push_each.Given as goal

abbrev pub invariant-loop-value : goal.invariant-loop-value
invariant-loop-value l =
    l.out.items ++ elements_packed (scalar l.fn.kind) (data_from (map datum_of (drop l.value-index l.values))) ≡ l.fn.out.items ++ elements_packed (scalar l.fn.kind) (data_from (map datum_of l.values))
