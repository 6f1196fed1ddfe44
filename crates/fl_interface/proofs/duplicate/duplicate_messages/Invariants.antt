use Rattle.std.proofs.Common.{◌≡◌, map, take}
use Rattle.fl_interface.specs.Interface.{message_of}
use Rattle.fl_interface.proofs.duplicate.duplicate_messages.Given as goal

abbrev pub invariant-loop-message : goal.invariant-loop-message
invariant-loop-message l = map message_of l.copies.items ≡ map message_of (take l.message-index l.messages)
