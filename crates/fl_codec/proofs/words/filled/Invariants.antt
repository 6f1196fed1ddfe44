use Rattle.std.proofs.Common.{◌≡◌, drop, replicate}
use Rattle.fl_codec.specs.Words.{filled}
use Rattle.fl_codec.proofs.words.filled.Given as goal

-- what the places from here on put
abbrev pub invariant-loop-index : goal.invariant-loop-index
invariant-loop-index l = filled (drop l.index l.places) (drop l.index l.numbers) l.words ≡ filled l.places l.numbers (replicate 7 0)
