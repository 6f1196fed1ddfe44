use Rattle.std.proofs.Common.{◌≡◌, length, map, drop, ◌≤◌}
use Rattle.fl_interface.specs.Interface.{arg_type_of}
use Rattle.fl_value_data.specs.Value.{datum_of}
use Rattle.fl_value_data.specs.Fits.{are_arguments}
use Rattle.fl_value_data.proofs.fitting.are_arguments.Given as goal

abbrev pub invariant-loop-index : goal.invariant-loop-index
invariant-loop-index l =
    (are_arguments (map arg_type_of (drop l.index l.arguments)) (map datum_of (drop l.index l.values)) ≡ are_arguments (map arg_type_of l.arguments) (map datum_of l.values))
    × (l.index ≤ length l.arguments)
