use Rattle.std.proofs.Common.{◌≡◌, ◌-◌, map}
use Rattle.fl_interface.specs.Interface.{arg_type_of}
use Rattle.fl_c_operations.specs.After.{after_ranks}
use Rattle.fl_c_operations.proofs.tapes.after_arguments.Given as goal

abbrev pub invariant-loop-rank : goal.invariant-loop-rank
invariant-loop-rank l = after_ranks l.plan (5 - l.rank) l.rank (map arg_type_of l.arguments) l.rest ≡ after_ranks l.plan 5 0 (map arg_type_of l.arguments) l.tape
