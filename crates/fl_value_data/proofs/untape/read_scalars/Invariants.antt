use Rattle.std.proofs.Common.{map, replicate}
use Rattle.fl_interface.specs.Interface.{scalar}
use Rattle.fl_value_data.specs.Value.{datum_of}
use Rattle.fl_value_data.specs.Taken.{ValueAt, InTurn, TheOne}
use Rattle.fl_value_data.proofs.untape.read_scalars.Given as goal

abbrev pub invariant-loop-done : goal.invariant-loop-done
invariant-loop-done l = TheOne (InTurn ValueAt (replicate l.done (scalar l.kind)) l.tape) (map datum_of l.values.items) l.rest
