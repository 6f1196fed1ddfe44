use Rattle.fl_core.specs.Numbers.{moved_wired_end}
use Rattle.fl_core.proofs.Numbering.{Changed}
use Rattle.fl_core.proofs.numbers.move_wired_ends.Given as goal

abbrev pub invariant-loop-k : goal.invariant-loop-k
invariant-loop-k l = Changed (moved_wired_end l.sides l.queues) l.fn.wired_ends.items l.wired_ends.items l.k
