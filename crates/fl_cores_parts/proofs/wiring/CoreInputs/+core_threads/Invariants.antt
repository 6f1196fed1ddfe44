use Rattle.std.proofs.Common.{length}
use Rattle.fl_cores_parts.proofs.wiring.CoreInputs.+core_threads.Given as goal

abbrev pub decreases-core_threads : goal.decreases-core_threads
decreases-core_threads l = length l.cores.items
