use Rattle.std.proofs.Common.{take}
use Rattle.fl_history_sides.specs.Lent.{AreFirst}
use Rattle.fl_history_sides.proofs.sides.sides_of.Given as goal

-- the sides of the first k numbers
abbrev pub invariant-loop-k : goal.invariant-loop-k
invariant-loop-k l = record { so_far : AreFirst l.core (take l.k l.numbers) l.sides.items }
