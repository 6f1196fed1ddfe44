use Rattle.std.proofs.Common.{◌≡◌, ◌-◌, false, List, map}
use Rattle.std.specs.List.{zip}
use Rattle.fl_interface.specs.Interface.{arg_type_of}
use Rattle.fl_value_data.specs.Value.{datum_of}
use Rattle.fl_value_data.specs.declared.value.PlanNo.TheVariants.{Two}
use Rattle.fl_layout.specs.Leaves.{Leaf, arguments_onto}
use Rattle.fl_wire.specs.Payload.{payload_bytes}
use Rattle.fl_value_data.specs.Plan.{of_ranks}
use Rattle.fl_value_data.specs.Tape.{kind}
use Rattle.fl_wire.proofs.encode.put_ranks.Given as goal

-- the leaves of the ranks that are left go onto those that stand
abbrev pub invariant-loop-rank : goal.invariant-loop-rank
invariant-loop-rank l =
    let args = zip (map arg_type_of l.types) (map datum_of l.values) in
    (before : List Leaf) → l.fn.out.items ≡ payload_bytes before → (now : List Leaf) × (l.out.items ≡ payload_bytes now)
    × (arguments_onto false (of_ranks kind Two (5 - l.rank) l.rank args) now ≡ arguments_onto false (of_ranks kind Two 5 0 args) before)
