use Rattle.std.proofs.Common.{◌≡◌, ◌≤◌, ◌-◌, ◌++◌, ◌∷◌, ℕ, List, length, map, take, drop}
use Rattle.fl_machine.specs.Cursors.{low_byte}
use Rattle.fl_machine.specs.Filling.{Holds}
use Rattle.fl_machine.proofs.send.put_bytes.Given as goal

abbrev pub invariant-loop-index : goal.invariant-loop-index
invariant-loop-index l =
    (l.index ≤ l.others) × (length l.buffer ≡ 56)
    × ((put : List ℕ) → length put ≡ l.at → Holds l.fn.buffer put → Holds l.buffer (put ++ map low_byte (l.first ∷ take l.index (drop l.from l.numbers))))

abbrev pub decreases-loop-index : goal.decreases-loop-index
decreases-loop-index l = l.others - l.index
