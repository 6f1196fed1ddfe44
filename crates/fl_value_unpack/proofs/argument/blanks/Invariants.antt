use Rattle.std.proofs.Common.{◌≡◌, length}
use Rattle.fl_value_unpack.proofs.argument.blanks.Given as goal

abbrev pub invariant-loop-index : goal.invariant-loop-index
invariant-loop-index l = length l.values.items ≡ l._index
