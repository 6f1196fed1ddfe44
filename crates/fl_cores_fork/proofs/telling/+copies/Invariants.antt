use Rattle.std.proofs.Common.{◌≡◌, map, take}
use Rattle.fl_value_data.specs.Value.{datum_of}
use Rattle.fl_cores_fork.proofs.telling.+copies.Given as goal

abbrev pub invariant-copy_values-loop-value : goal.invariant-copy_values-loop-value
invariant-copy_values-loop-value l = map datum_of l.copies.items ≡ map datum_of (take l.value-index l.values)
