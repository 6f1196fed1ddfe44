use Rattle.std.proofs.Common.{map, drop}
use Rattle.fl_interface.specs.Interface.{message_of, interface_of}
use Rattle.flounder_header.proofs.Sections.{SoFar}
use Rattle.flounder_header.proofs.messages.sections.Given as goal

abbrev pub invariant-loop-number : goal.invariant-loop-number
invariant-loop-number l =
    SoFar l.plans.plan (interface_of l.plans.interface) (map message_of l.plans.interface.messages.items)
    l.number (map message_of (drop l.number l.plans.interface.messages.items)) l.text.items
