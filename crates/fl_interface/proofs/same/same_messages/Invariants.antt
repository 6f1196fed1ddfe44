use Rattle.std.proofs.Common.{◌≡◌, map, take, length}
use Rattle.fl_interface.specs.Interface.{message_of}
use Rattle.fl_interface.proofs.same.same_messages.Given as goal

abbrev pub invariant-loop-one : goal.invariant-loop-one
invariant-loop-one l = map message_of (take (length l.yielded) l.ones) ≡ map message_of (take (length l.yielded) l.others)
