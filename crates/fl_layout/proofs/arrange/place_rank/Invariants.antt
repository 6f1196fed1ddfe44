use Rattle.std.proofs.Common.{◌≡◌, ◌++◌, drop, map, true}
use Rattle.fl_interface.specs.Interface.{arg_type_of}
use Rattle.fl_interface.specs.Limits.{are_arguments_within}
use Rattle.fl_layout.specs.Extents.{placed_of_rank}
use Rattle.fl_layout.proofs.Arranging.{left_of_rank}
use Rattle.fl_layout.proofs.arrange.place_rank.Given as goal

-- what is left to be kept, and its types
abbrev pub invariant-loop-index : goal.invariant-loop-index
invariant-loop-index l =
    (l.order.items ++ left_of_rank l.plan l.rank l.index (map arg_type_of (drop l.index l.arguments)) ≡ l.fn.order.items ++ placed_of_rank l.plan l.rank (map arg_type_of l.arguments))
    × (are_arguments_within (map arg_type_of (drop l.index l.arguments)) ≡ true)
