use Rattle.std.proofs.Common.{◌≡◌, ◌++◌, take}
use Rattle.fl_value_data.proofs.untape.push_each.Given as goal

abbrev pub invariant-loop-number : goal.invariant-loop-number
invariant-loop-number l = l.bytes.items ≡ l.fn.bytes.items ++ take l.number-index l.numbers
