use Rattle.std.proofs.Common.{◌≡◌, ◌++◌, map, drop}
use Rattle.fl_interface.specs.Interface.{TheArgType, arg_type_of}
use Rattle.fl_value_data.specs.Plan.{of_rank}
use Rattle.fl_compile.specs.Arguments.{types_in}
use Rattle.fl_compile.proofs.order.push_rank.Given as goal

abbrev pub invariant-loop-argument : goal.invariant-loop-argument
invariant-loop-argument l =
    types_in l.order.items ++ of_rank (λ (t : TheArgType). t) l.plan l.rank (map arg_type_of (drop l.argument-index l.declared))
    ≡ types_in l.fn.order.items ++ of_rank (λ (t : TheArgType). t) l.plan l.rank (map arg_type_of l.declared)
