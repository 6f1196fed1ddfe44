use Rattle.std.proofs.Common.{◌≡◌, map, take, length}
use Rattle.fl_interface.specs.Interface.{arg_type_of}
use Rattle.fl_interface.proofs.same.same_each.Given as goal

abbrev pub invariant-loop-one : goal.invariant-loop-one
invariant-loop-one l = map arg_type_of (take (length l.yielded) l.ones) ≡ map arg_type_of (take (length l.yielded) l.others)
