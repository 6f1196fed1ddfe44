-- The jobs of each end stand in its end's work.
use Rattle.std.proofs.Common.{ℕ, List}
use Rattle.fl_cores_file.specs.Jobs.{Job}
use Rattle.fl_cores_jobs.specs.State.{TheJoinedJobs, AreJoined}
use Rattle.fl_cores_fork.specs.Taking.{HavePlaces}

-- what was joined is so
pub have_places : (cores : ℕ) (asked : List Job) (j : TheJoinedJobs) → AreJoined cores asked j → HavePlaces j.end_works j.jobs
have_places cores asked j joined e = (joined.each e).places
