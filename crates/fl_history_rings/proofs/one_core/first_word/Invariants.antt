use Rattle.std.proofs.Common.{◌≡◌, take}
use Rattle.fl_history_rings.specs.Rule.{words_of}
use Rattle.fl_history_rings.proofs.one_core.first_word.Given as goal

-- the words of the first k ways
abbrev pub invariant-loop-k : goal.invariant-loop-k
invariant-loop-k l = record { so_far : l.base ≡ words_of (take l.k l.sides) }
