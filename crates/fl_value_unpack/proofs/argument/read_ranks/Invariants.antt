use Rattle.std.proofs.Common.{◌≡◌, ◌≤◌, ◌-◌, ◌++◌, List, length, map, take}
use Rattle.fl_interface.specs.Interface.{TheArgType, arg_type_of}
use Rattle.fl_value_data.specs.declared.value.PlanNo.TheVariants.{Two}
use Rattle.fl_value_data.specs.Value.{datum_of}
use Rattle.fl_value_data.specs.Plan.{of_ranks, by_ranks}
use Rattle.fl_value_data.specs.Taken.{InTurn, types_of_rank}
use Rattle.fl_value_data.proofs.Ranked.{ranked}
use Rattle.fl_value_unpack.specs.Reading.{PackedArgumentAt, OnlyOne}
use Rattle.fl_value_unpack.proofs.Placed.{held}
use Rattle.fl_value_unpack.proofs.argument.read_ranks.Given as goal

-- the ranks so far are read, and the others are left
abbrev pub invariant-loop-rank : goal.invariant-loop-rank
invariant-loop-rank l = record {
  few : l.rank ≤ 5;
  long : length l.values.items ≡ length l.arguments;
  read : (done : List TheArgType) × (done ++ of_ranks (λ t. t) Two (5 - l.rank) l.rank (map arg_type_of l.arguments) ≡ by_ranks (λ t. t) Two (map arg_type_of l.arguments))
      × OnlyOne (InTurn PackedArgumentAt done l.tape) (ranked l.rank 0 (map arg_type_of l.arguments) (map datum_of l.values.items)) l.rest;
}

-- and of this rank the arguments so far
abbrev pub invariant-loop-index : goal.invariant-loop-index
invariant-loop-index l = record {
  few : l.rank ≤ 4;
  long : length l.values.items ≡ length l.arguments;
  read : (done : List TheArgType) × (done ++ of_ranks (λ t. t) Two (5 - l.rank) l.rank (map arg_type_of l.arguments) ≡ by_ranks (λ t. t) Two (map arg_type_of l.arguments))
      × OnlyOne (InTurn PackedArgumentAt (done ++ types_of_rank Two l.rank (map arg_type_of (take l.index l.arguments))) l.tape) (held l.rank l.index (map arg_type_of l.arguments) (map datum_of l.values.items)) l.rest;
}
