use Rattle.std.proofs.Common.{◌≡◌, ◌++◌, length}
use Rattle.fl_value_data.proofs.tape.push_bytes.Given as goal

abbrev pub invariant-loop-rest : goal.invariant-loop-rest
invariant-loop-rest l = l.tape.items ++ l.rest ≡ l.fn.tape.items ++ l.bytes

abbrev pub decreases-loop-rest : goal.decreases-loop-rest
decreases-loop-rest l = length l.rest
