use Rattle.std.proofs.Common.{◌≡◌, ◌++◌, length}
use Rattle.fl_value_data.proofs.untape.push_eights.Given as goal

abbrev pub invariant-loop-rest : goal.invariant-loop-rest
invariant-loop-rest l = l.bytes.items ++ l.rest ≡ l.fn.bytes.items ++ l.numbers

abbrev pub decreases-loop-rest : goal.decreases-loop-rest
decreases-loop-rest l = length l.rest
