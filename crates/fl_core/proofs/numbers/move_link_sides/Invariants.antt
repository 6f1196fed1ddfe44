use Rattle.fl_core.specs.Numbers.{moved_link_side}
use Rattle.fl_core.proofs.Numbering.{Changed}
use Rattle.fl_core.proofs.numbers.move_link_sides.Given as goal

abbrev pub invariant-loop-k : goal.invariant-loop-k
invariant-loop-k l = Changed (moved_link_side l.sides) l.fn.link_sides.items l.link_sides.items l.k
