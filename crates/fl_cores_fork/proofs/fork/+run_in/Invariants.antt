use Rattle.std.proofs.Common.{length}
use Rattle.fl_cores_fork.proofs.fork.+run_in.Given as goal

abbrev pub decreases-run_in : goal.decreases-run_in
decreases-run_in g l = length l.todo.items
