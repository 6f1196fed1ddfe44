use Rattle.std.proofs.Common.{map, drop}
use Rattle.fl_value_data.specs.Value.{datum_of, data_from}
use Rattle.fl_value.specs.Printed.{printed_values}
use Rattle.fl_value.proofs.Begun.{IsLeft}
use Rattle.fl_value.proofs.Prints.{printed_from}
use Rattle.fl_value.proofs.printing.+printing.Given as goal

abbrev pub invariant-print_values-loop-index : goal.invariant-print_values-loop-index
invariant-print_values-loop-index l =
    IsLeft l.fn.out.items l.out.items (printed_values (data_from (map datum_of l.values))) (printed_from l.index (data_from (map datum_of (drop l.index l.values))))
