use Rattle.std.proofs.Common.{◌≡◌, drop, take, length, Some}
use Rattle.fl_codec.specs.Words.{taken}
use Rattle.fl_codec.proofs.words.numbers_filling.Given as goal

-- what the places from here on gave
abbrev pub invariant-loop-index : goal.invariant-loop-index
invariant-loop-index l =
    (length l.numbers ≡ 7)
    × (taken (drop l.index l.places) l.words ≡ Some (record { numbers = drop l.index (take (length l.places) l.numbers); left = l.left }))
