use Rattle.std.proofs.Common.{◌≡◌, map, take, length}
use Rattle.fl_interface.specs.Interface.{type_of}
use Rattle.fl_interface.proofs.same.+same.Given as goal

abbrev pub invariant-same_types-loop-one : goal.invariant-same_types-loop-one
invariant-same_types-loop-one l = map type_of (take (length l.yielded) l.ones) ≡ map type_of (take (length l.yielded) l.others)
