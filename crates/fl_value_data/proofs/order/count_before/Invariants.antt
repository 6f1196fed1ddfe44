use Rattle.std.proofs.Common.{◌≡◌, ◌≤◌, map, take, nat_lt}
use Rattle.std.specs.List.{count_by}
use Rattle.fl_interface.specs.Interface.{arg_type_of}
use Rattle.fl_value_data.specs.declared.value.PlanNo.TheVariants.{Two}
use Rattle.fl_value_data.specs.Plan.{rank_of}
use Rattle.fl_value_data.proofs.order.count_before.Given as goal

abbrev pub invariant-loop-argument : goal.invariant-loop-argument
invariant-loop-argument l = (l.count ≡ count_by (λ t. nat_lt (rank_of Two t) l.rank) (map arg_type_of (take l.argument-index l.arguments))) × (l.count ≤ l.argument-index)
