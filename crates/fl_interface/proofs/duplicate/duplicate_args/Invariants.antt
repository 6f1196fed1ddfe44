use Rattle.std.proofs.Common.{◌≡◌, map, take}
use Rattle.fl_interface.specs.Interface.{arg_type_of}
use Rattle.fl_interface.proofs.duplicate.duplicate_args.Given as goal

abbrev pub invariant-loop-arg : goal.invariant-loop-arg
invariant-loop-arg l = map arg_type_of l.copies.items ≡ map arg_type_of (take l.arg-index l.args)
