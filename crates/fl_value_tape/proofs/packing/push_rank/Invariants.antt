use Rattle.std.proofs.Common.{◌≡◌, ◌++◌, drop, map}
use Rattle.std.specs.List.{zip}
use Rattle.fl_interface.specs.Interface.{arg_type_of}
use Rattle.fl_value_data.specs.Value.{datum_of}
use Rattle.fl_value_tape.specs.Packed.{rank_packed}
use Rattle.fl_value_tape.proofs.packing.push_rank.Given as goal

abbrev pub invariant-loop-index : goal.invariant-loop-index
invariant-loop-index l =
    l.out.items ++ rank_packed l.plan l.rank (zip (map arg_type_of (drop l.index l.arguments)) (map datum_of (drop l.index l.values))) ≡ l.fn.out.items ++ rank_packed l.plan l.rank (zip (map arg_type_of l.arguments) (map datum_of l.values))
