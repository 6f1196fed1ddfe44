use Rattle.std.proofs.Common.{map, drop}
use Rattle.fl_interface.specs.Interface.{arg_type_of, interface_of}
use Rattle.flounder_show.specs.Table.{TellsArgument}
use Rattle.flounder_show.proofs.Telling.{Told}
use Rattle.flounder_show.proofs.table.put_arguments.Given as goal

abbrev pub invariant-loop-number : goal.invariant-loop-number
invariant-loop-number l =
    Told (TellsArgument l.plans.plan (interface_of l.plans.interface) l.msg.0) (map arg_type_of l.message.args.items)
    l.number (map arg_type_of (drop l.number l.message.args.items)) l.fn.table.items l.table.items
