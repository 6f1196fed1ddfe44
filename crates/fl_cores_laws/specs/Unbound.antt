-- Ends that aren't bound in the end, and bindings over which no call came. Laws.
use Rattle.std.specs.Prelude.{ℕ, ◌≡◌, List, [], slice_get, Some, None}
use Rattle.fl_base.specs.declared.identity.EndId.{EndId}
use Rattle.fl_ring.specs.SharedSides.{TheSide}
use Rattle.fl_core.specs.BoardView.{TheEndAtChannel}
use Rattle.fl_core.specs.View.{place_of, client_of, server_of}
use Rattle.fl_core.specs.declared.core_job.CoreJob.{CoreJob}
use Rattle.fl_core_run.specs.Run.{TheRun}
use Rattle.fl_cores_file.specs.Jobs.{Job}
use Rattle.fl_cores_jobs.specs.EndWork.{TheEndWork, end_work_at}
use Rattle.fl_cores_jobs.specs.State.{TheJoinedJobs, AreJoined}
use Rattle.fl_cores_laws.specs.Cores.{OneCore, Went}
use Rattle.fl_cores_laws.specs.Ends.{HasProgress}
use Rattle.fl_cores_laws.specs.Told.{handled_by, made_by}
use Rattle.fl_cores_laws.specs.Bindings.{AreHonest}

-- ---- an end

-- it isn't there, or is bound to no circuit
abbrev pub IsLoose : TheRun TheSide → EndId → Type 0
IsLoose t e = (place : ℕ) (seat : TheEndAtChannel) → place_of t.core e ≡ Some place → slice_get t.core.board.seats place ≡ Some seat → seat.end.circuit ≡ None

-- it handled no call, and made none
pub record DidNothing (jobs : List CoreJob) (d : TheEndWork) (t : TheRun TheSide) (e : EndId) : Type 0 where
  pub handled : handled_by t e ≡ []
  pub made : made_by jobs d t e ≡ []

-- an end that isn't bound in the end did nothing
abbrev pub LooseEndsRest : Type 0
LooseEndsRest = (jobs : List CoreJob) (d : TheEndWork) (c : OneCore) (e : EndId) → Went jobs c → HasProgress d c.start e → IsLoose c.finish e
    → DidNothing jobs d c.finish e

-- ---- a binding

-- a core that went, where the end of this end's work has its end's progress
pub record HasEnd (jobs : List CoreJob) (d : TheEndWork) (c : OneCore) (e : EndId) : Type 0 where
  pub went : Went jobs c
  pub progress : HasProgress d c.start e

-- so has each end of binding n, the client's at the one core and the server's at the other
pub record HaveEnds (j : TheJoinedJobs) (n : ℕ) (c d : OneCore) : Type 0 where
  pub client : HasEnd j.jobs (end_work_at j.end_works (client_of n)) c (client_of n)
  pub server : HasEnd j.jobs (end_work_at j.end_works (server_of n)) d (server_of n)

-- where neither end handled a call, what is told of them is honest
abbrev pub SilenceIsHonest : Type 0
SilenceIsHonest = (asked : List Job) (j : TheJoinedJobs) (cores n : ℕ) (c d : OneCore) → AreJoined cores asked j → HaveEnds j n c d
    → handled_by c.finish (client_of n) ≡ [] → handled_by d.finish (server_of n) ≡ [] → AreHonest asked j n c d

-- so it is where neither is bound in the end
abbrev pub LooseIsHonest : Type 0
LooseIsHonest = (asked : List Job) (j : TheJoinedJobs) (cores n : ℕ) (c d : OneCore) → AreJoined cores asked j → HaveEnds j n c d
    → IsLoose c.finish (client_of n) → IsLoose d.finish (server_of n) → AreHonest asked j n c d
