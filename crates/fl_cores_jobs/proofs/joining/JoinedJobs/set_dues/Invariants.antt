use Rattle.fl_cores_jobs.specs.State.{joined_of, DuesUpTo}
use Rattle.fl_cores_jobs.proofs.joining.JoinedJobs.set_dues.Given as goal

abbrev pub invariant-loop-slot : goal.invariant-loop-slot
invariant-loop-slot l = DuesUpTo l.slot (joined_of l.fn.self) (joined_of l.self)
