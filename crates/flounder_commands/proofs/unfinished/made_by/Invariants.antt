use Rattle.std.proofs.Common.{length}
use Rattle.flounder_commands.proofs.unfinished.made_by.Given as goal

abbrev pub decreases-loop-rest : goal.decreases-loop-rest
decreases-loop-rest l = length l.rest
