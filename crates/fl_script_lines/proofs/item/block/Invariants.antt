use Rattle.std.proofs.Common.{length}
use Rattle.fl_script_lines.proofs.ItemLemmas.{Within}
use Rattle.fl_script_lines.proofs.item.block.Given as goal

abbrev pub invariant-loop-rest : goal.invariant-loop-rest
invariant-loop-rest l = Within l.bytes l.rest l.taken

abbrev pub decreases-loop-rest : goal.decreases-loop-rest
decreases-loop-rest l = length l.rest
