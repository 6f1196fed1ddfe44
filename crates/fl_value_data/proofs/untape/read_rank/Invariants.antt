use Rattle.std.proofs.Common.{◌++◌, ℕ, List, map, take}
use Rattle.fl_interface.specs.Interface.{TheArgType, arg_type_of}
use Rattle.fl_value_data.specs.Value.{datum_of}
use Rattle.fl_value_data.specs.Taken.{ArgumentAt, InTurn, TheOne, types_of_rank}
use Rattle.fl_value_data.proofs.untape.read_rank.Given as goal

abbrev pub invariant-loop-argument : goal.invariant-loop-argument
invariant-loop-argument l =
    (done : List TheArgType) (whole : List ℕ) → TheOne (InTurn ArgumentAt done whole) (map datum_of l.fn.before.items) l.tape
    → TheOne (InTurn ArgumentAt (done ++ types_of_rank l.plan l.rank (map arg_type_of (take l.argument-index l.arguments))) whole) (map datum_of l.values.items) l.rest
