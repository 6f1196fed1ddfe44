use Rattle.std.proofs.Common.{map, drop}
use Rattle.fl_interface.specs.Interface.{message_of, interface_of}
use Rattle.flounder_show.specs.Table.{TellsMessage}
use Rattle.flounder_show.proofs.Telling.{Told}
use Rattle.flounder_show.proofs.table.put_messages.Given as goal

abbrev pub invariant-loop-number : goal.invariant-loop-number
invariant-loop-number l =
    Told (TellsMessage l.plans.plan (interface_of l.plans.interface)) (map message_of l.plans.interface.messages.items)
    l.number (map message_of (drop l.number l.plans.interface.messages.items)) l.fn.table.items l.table.items
