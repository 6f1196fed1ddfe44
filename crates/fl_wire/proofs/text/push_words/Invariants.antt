use Rattle.std.proofs.Common.{◌≡◌, ◌-◌, ◌*◌, ◌%◌, ◌++◌}
use Rattle.fl_wire.proofs.Texts.{stretch}
use Rattle.fl_wire.proofs.text.push_words.Given as goal

-- the words so far
abbrev pub invariant-loop-index : goal.invariant-loop-index
invariant-loop-index l = l.bytes.items ≡ l.fn.bytes.items ++ stretch l.frags (8 * l.first) (8 * (l.index - l.first % 7))
