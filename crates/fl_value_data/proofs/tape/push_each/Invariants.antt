use Rattle.std.proofs.Common.{◌≡◌, ◌++◌, take}
use Rattle.fl_value_data.proofs.tape.push_each.Given as goal

abbrev pub invariant-loop-byte : goal.invariant-loop-byte
invariant-loop-byte l = l.tape.items ≡ l.fn.tape.items ++ take l.byte-index l.bytes
