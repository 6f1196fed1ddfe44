use Rattle.std.proofs.Common.{◌≡◌, take}
use Rattle.fl_history_rings.specs.Rings.{sides_of}
use Rattle.fl_history_rings.proofs.making.sides_of.Given as goal

-- the sides of the first k rings
abbrev pub invariant-loop-k : goal.invariant-loop-k
invariant-loop-k l = record { so_far : l.sides.items ≡ sides_of (take l.k l.rings) }
