use Rattle.std.proofs.Common.{◌≡◌, map, drop}
use Rattle.fl_interface.specs.Interface.{message_of}
use Rattle.fl_value.specs.Resolve.{named_from}
use Rattle.fl_value.proofs.calls.number_of_message.Given as goal

abbrev pub invariant-loop-number : goal.invariant-loop-number
invariant-loop-number l = named_from l.name (map message_of (drop l.number l.messages)) l.number ≡ named_from l.name (map message_of l.messages) 0
