use Rattle.std.proofs.Common.{◌≡◌, ◌-◌, ◌++◌, List, map}
use Rattle.fl_interface.specs.Interface.{TheArgType, arg_type_of}
use Rattle.fl_value_data.specs.declared.value.PlanNo.TheVariants.{Two}
use Rattle.fl_value_data.specs.Value.{datum_of}
use Rattle.fl_value_data.specs.Plan.{of_ranks, by_ranks}
use Rattle.fl_value_data.specs.Taken.{ArgumentAt, InTurn, TheOne}
use Rattle.fl_value_data.proofs.untape.read_ranks.Given as goal

-- the ranks so far are read, and the others are left
abbrev pub invariant-loop-rank : goal.invariant-loop-rank
invariant-loop-rank l =
    let types = map arg_type_of l.arguments in
    (done : List TheArgType) × (done ++ of_ranks (λ t. t) Two (5 - l.rank) l.rank types ≡ by_ranks (λ t. t) Two types)
    × TheOne (InTurn ArgumentAt done l.tape) (map datum_of l.values.items) l.rest
