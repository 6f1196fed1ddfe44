-- Bindings off links, and that what a report tells of them is honest. Laws.
use Rattle.std.specs.Prelude.{ℕ, ◌≡◌, ◌⊎◌, List, [], length, slice_get, Some}
use Rattle.fl_base.specs.declared.fragment.Frag.{Frag}
use Rattle.fl_base.specs.declared.identity.EndId.{EndId}
use Rattle.fl_base.specs.Ends.{peer}
use Rattle.fl_base.specs.Prefix.{IsPrefix}
use Rattle.fl_link.specs.Queue.{TheQueue}
use Rattle.fl_compile.specs.Programs.{program_of}
use Rattle.fl_endpoint.specs.View.{TheEnd}
use Rattle.fl_core.specs.declared.wiring.EndWiring.TheVariants.{Queues, Ring}
use Rattle.fl_core.specs.View.{client_of, server_of}
use Rattle.fl_core.specs.declared.core_job.CoreJob.{CoreJob}
use Rattle.fl_core_run_laws.specs.Agree.{Arrived}
use Rattle.fl_cores_file.specs.Jobs.{Job, handed_in}
use Rattle.fl_cores_file.specs.Report.{TheReport, Honest}
use Rattle.fl_cores_jobs.specs.declared.end_work.BindingCores.{BindingCores}
use Rattle.fl_cores_jobs.specs.EndWork.{TheEndWork, end_work_at, IsEndWork}
use Rattle.fl_cores_jobs.specs.State.{TheJoinedJobs, AreJoined}
use Rattle.fl_cores_laws.specs.Cores.{OneCore, Went, AllWent}
use Rattle.fl_cores_laws.specs.Ends.{HasProgress, StandsReady, EndRan}
use Rattle.fl_cores_laws.specs.Told.{handled_by, made_by, IsOf, AreTold}
use Rattle.fl_cores_laws.specs.Crossing.{Crosses}

-- ---- two ends of a binding, wherever they are

-- an end with its end's work and its core, what it put and took in the run, and what it came to
pub record Party : Type 0 where
  pub end_work : TheEndWork
  pub core : OneCore
  pub put : List Frag
  pub took : List Frag
  pub end : TheEnd

-- it did what its end's work says
pub record IsParty (asked : List Job) (jobs : List CoreJob) (e : EndId) (p : Party) : Type 0 where
  pub end_work : IsEndWork asked jobs e p.end_work
  pub progress : HasProgress p.end_work p.core.start e
  pub went : Went jobs p.core
  pub ran : EndRan p.end_work p.core e p.put p.took p.end

-- of the end of one party: what its other end handled is the first of what it made, and that is the first of what is handed in for it
pub record IsHonest (asked : List Job) (jobs : List CoreJob) (e : EndId) (p q : Party) : Type 0 where
  pub handled : IsPrefix (handled_by q.core.finish (peer e)) (made_by jobs p.end_work p.core.finish e)
  pub made : IsPrefix (made_by jobs p.end_work p.core.finish e) (handed_in asked e)

-- where what each took is the first of what the other put, both are honest
abbrev pub PartiesAreHonest : Type 0
PartiesAreHonest = (asked : List Job) (jobs : List CoreJob) (e : EndId) (p q : Party) → IsParty asked jobs e p → IsParty asked jobs (peer e) q
    → program_of q.end.program ≡ program_of p.end.program → Arrived q.took p.put → Arrived p.took q.put → IsHonest asked jobs e p q

-- of both ends of binding n, the client's at the one core and the server's at the other
pub record AreHonest (asked : List Job) (j : TheJoinedJobs) (n : ℕ) (c d : OneCore) : Type 0 where
  pub there : IsPrefix (handled_by d.finish (server_of n)) (made_by j.jobs (end_work_at j.end_works (client_of n)) c.finish (client_of n))
  pub again : IsPrefix (handled_by c.finish (client_of n)) (made_by j.jobs (end_work_at j.end_works (server_of n)) d.finish (server_of n))
  pub client : IsPrefix (made_by j.jobs (end_work_at j.end_works (client_of n)) c.finish (client_of n)) (handed_in asked (client_of n))
  pub server : IsPrefix (made_by j.jobs (end_work_at j.end_works (server_of n)) d.finish (server_of n)) (handed_in asked (server_of n))

-- ---- bindings off links, at the start

-- both ends stand at one core, each takes from the queue that the other puts to, and nothing stands in these
pub record ByQueues (j : TheJoinedJobs) (n : ℕ) (c : OneCore) : Type 0 where
  pub forth : ℕ
  pub back : ℕ
  pub client : StandsReady j.jobs (end_work_at j.end_works (client_of n)) c.start (client_of n) (Queues forth back)
  pub server : StandsReady j.jobs (end_work_at j.end_works (server_of n)) c.start (server_of n) (Queues back forth)
  pub program : program_of server.seat.end.program ≡ program_of client.seat.end.program
  pub there : TheQueue
  pub there_is : slice_get c.start.queues forth ≡ Some there
  pub there_new : there.items ≡ []
  pub again : TheQueue
  pub again_is : slice_get c.start.queues back ≡ Some again
  pub again_new : again.items ≡ []

-- each has a side of a ring at its core, new at the start and put together in the end
pub record ByRing (j : TheJoinedJobs) (n : ℕ) (c d : OneCore) : Type 0 where
  pub one : ℕ
  pub two : ℕ
  pub client : StandsReady j.jobs (end_work_at j.end_works (client_of n)) c.start (client_of n) (Ring one)
  pub server : StandsReady j.jobs (end_work_at j.end_works (server_of n)) d.start (server_of n) (Ring two)
  pub program : program_of server.seat.end.program ≡ program_of client.seat.end.program
  pub ring : Crosses c.start.rings c.finish.rings d.start.rings d.finish.rings one two

-- the cores of a binding's two ends
pub record HasCores (cores : List OneCore) (b : BindingCores) (c d : OneCore) : Type 0 where
  pub client : slice_get cores b.client ≡ Some c
  pub server : slice_get cores b.server ≡ Some d

-- one of the two
pub record IsOffLinks (j : TheJoinedJobs) (all : List OneCore) (n : ℕ) (b : BindingCores) : Type 0 where
  pub client : OneCore
  pub server : OneCore
  pub cores : HasCores all b client server
  pub joined : ((client ≡ server) × ByQueues j n client) ⊎ ByRing j n client server

-- ---- the whole

-- what the ends' progress have is honest of each binding; then so is a report that tells that
abbrev pub ReportsAreHonest : Type 0
ReportsAreHonest = (asked : List Job) (j : TheJoinedJobs) (cores : List OneCore) (r : TheReport)
    → ((n : ℕ) (b : BindingCores) → slice_get j.bindings n ≡ Some b → (c : OneCore) × (d : OneCore) × HasCores cores b c d × AreHonest asked j n c d)
    → AreTold j cores r.made r.handled → Honest asked r

-- cores ran the jobs that were joined for them, over bindings off links alone
pub record RanOffLinks (asked : List Job) (j : TheJoinedJobs) (cores : List OneCore) : Type 0 where
  pub joined : AreJoined (length cores) asked j
  pub went : AllWent j.jobs cores
  pub progresses : (e : EndId) (c : OneCore) → IsOf j cores e c → HasProgress (end_work_at j.end_works e) c.start e
  pub bindings : (n : ℕ) (b : BindingCores) → slice_get j.bindings n ≡ Some b → IsOffLinks j cores n b

abbrev pub OffLinksIsHonest : Type 0
OffLinksIsHonest = (asked : List Job) (j : TheJoinedJobs) (cores : List OneCore) (r : TheReport) → RanOffLinks asked j cores
    → AreTold j cores r.made r.handled → Honest asked r
