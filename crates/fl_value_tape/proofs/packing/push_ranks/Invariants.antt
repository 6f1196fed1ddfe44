use Rattle.std.proofs.Common.{◌≡◌, ◌-◌, ◌++◌, map}
use Rattle.std.specs.List.{zip, flat_map}
use Rattle.fl_interface.specs.Interface.{arg_type_of}
use Rattle.fl_value_data.specs.declared.value.PlanNo.TheVariants.{Two}
use Rattle.fl_value_data.specs.Value.{datum_of}
use Rattle.fl_value_data.specs.Plan.{of_ranks, by_ranks}
use Rattle.fl_value_data.specs.Tape.{kind}
use Rattle.fl_value_tape.specs.Packed.{packed_argument}
use Rattle.fl_value_tape.proofs.packing.push_ranks.Given as goal

-- the ranks that are left
abbrev pub invariant-loop-rank : goal.invariant-loop-rank
invariant-loop-rank l =
    let args = zip (map arg_type_of l.arguments) (map datum_of l.values) in
    l.out.items ++ flat_map packed_argument (of_ranks kind Two (5 - l.rank) l.rank args) ≡ l.fn.out.items ++ flat_map packed_argument (by_ranks kind Two args)
