use Rattle.std.proofs.Common.{◌≡◌, ◌+◌, take}
use Rattle.fl_history_rings.specs.Rule.{words_of}
use Rattle.fl_history_rings.proofs.making.words_of.Given as goal

-- the words of the first k ways, and one
abbrev pub invariant-loop-k : goal.invariant-loop-k
invariant-loop-k l = record { so_far : l.count ≡ words_of (take l.k l.sides) + 1 }
