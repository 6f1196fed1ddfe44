use Rattle.std.proofs.Common.{◌≡◌, ◌-◌, ◌++◌, map}
use Rattle.fl_interface.specs.Interface.{TheArgType, arg_type_of}
use Rattle.fl_value_data.specs.Plan.{of_ranks, by_ranks}
use Rattle.fl_compile.specs.Arguments.{types_in}
use Rattle.fl_compile.proofs.order.in_order.Given as goal

-- the ranks that are left
abbrev pub invariant-loop-rank : goal.invariant-loop-rank
invariant-loop-rank l =
    types_in l.order.items ++ of_ranks (λ (t : TheArgType). t) l.plan (5 - l.rank) l.rank (map arg_type_of l.declared)
    ≡ by_ranks (λ (t : TheArgType). t) l.plan (map arg_type_of l.declared)
