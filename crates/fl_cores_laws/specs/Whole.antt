-- A circuit's route from the client's end to the server's. Laws.
use Rattle.std.specs.Prelude.{ℕ, ◌≡◌, ◌⊎◌, List, [], length, slice_get, Some}
use Rattle.fl_base.specs.declared.identity.EndId.{EndId}
use Rattle.fl_base.specs.declared.identity.LinkId.{LinkId}
use Rattle.fl_hop.specs.declared.entry.HopTarget.TheVariants.{End}
use Rattle.fl_hop.specs.declared.links.LinkState.{LinkState}
use Rattle.fl_hop.specs.Joined.{Leads}
use Rattle.fl_hop.specs.Numbers.{OpenedThere}
use Rattle.fl_compile.specs.Programs.{program_of}
use Rattle.fl_core.specs.View.{client_of, server_of}
use Rattle.fl_core.specs.declared.core_job.CoreJob.{CoreJob}
use Rattle.fl_cores_laws.specs.Cores.{OneCore}
use Rattle.fl_core_run.specs.EndProgress.{TheEndProgress}
use Rattle.fl_core_run_laws.specs.Made.{progress_of}
use Rattle.fl_cores_file.specs.Jobs.{Job}
use Rattle.fl_cores_jobs.specs.declared.end_work.BindingCores.{BindingCores}
use Rattle.fl_cores_jobs.specs.EndWork.{end_work_at}
use Rattle.fl_cores_jobs.specs.Joined.{core_of}
use Rattle.fl_cores_jobs.specs.State.{TheJoinedJobs, AreJoined}
use Rattle.fl_cores_laws.specs.Circuits.{Leading, Point, Station, IsRoute, StandsBound, ByCircuit}
use Rattle.fl_cores_laws.specs.Bindings.{HasCores, AreHonest}
use Rattle.fl_cores_laws.specs.Ends.{HasProgress}
use Rattle.fl_cores_laws.specs.Neighbours.{IsUnused}
use Rattle.fl_cores_laws.specs.Back.{HasNeighbour, IsFirst}

-- ---- links, by the places of their cores

-- as its run began, the core's table has this link as one to the core at this place
pub record GoesTo (c : OneCore) (l : LinkId) (place : ℕ) : Type 0 where
  pub link : LinkState
  pub link_is : slice_get c.start.core.monitor.circuits.links l.0 ≡ Some link
  pub neighbour : link.neighbour.0 ≡ place

-- the link on whose other side this one is, of a core at this place, goes back to that place
pub record HasPair (cores : List OneCore) (place : ℕ) (d : OneCore) (m : LinkId) : Type 0 where
  pub across : HasNeighbour cores d m
  pub back : GoesTo across.core across.link place

-- cores that opened nothing before their run, whose tables lead, and whose links have each a core on the other side, whose table says so too
pub record ArePaired (jobs : List CoreJob) (cores : List OneCore) : Type 0 where
  pub leading : (n : ℕ) (c : OneCore) → slice_get cores n ≡ Some c → Leading jobs c
  pub unused : (n : ℕ) (c : OneCore) → slice_get cores n ≡ Some c → IsUnused c.start.core.monitor
  pub paired : (n number : ℕ) (d : OneCore) (m : LinkId) → slice_get cores n ≡ Some d
      → OpenedThere d.finish.core.monitor.circuits m.0 number → HasPair cores n d m

-- ---- routes

-- at this point a circuit ends: its entry leads to the server's end
abbrev pub IsLast : ℕ → Point → Type 0
IsLast binding q = Leads q.core.finish.core.monitor.circuits q.link.0 q.number.0 binding (End (server_of binding))

-- its route begins at the client's end, at one of the cores
pub record Begins (jobs : List CoreJob) (cores : List OneCore) (binding : ℕ) (q : Point) : Type 0 where
  pub point : Point
  pub place : ℕ
  pub core_is : slice_get cores place ≡ Some point.core
  pub stations : List Station
  pub route : IsRoute jobs binding point stations q
  pub first : IsFirst binding point

-- from where a circuit leads to the server's end, its route goes back to the client's end: no core is passed twice
abbrev pub RoutesBegin : Type 0
RoutesBegin = (jobs : List CoreJob) (cores : List OneCore) → ArePaired jobs cores
    → (binding place : ℕ) (q : Point) → slice_get cores place ≡ Some q.core → IsLast binding q → Begins jobs cores binding q

-- ---- the two ends of a route

-- both ends of binding n are bound in the end, at cores of these
pub record AreBound (j : TheJoinedJobs) (cores : List OneCore) (n : ℕ) (p q : Point) : Type 0 where
  pub client_place : ℕ
  pub client_core : slice_get cores client_place ≡ Some p.core
  pub client : StandsBound j.jobs (end_work_at j.end_works (client_of n)) (client_of n) p
  pub server_place : ℕ
  pub server_core : slice_get cores server_place ≡ Some q.core
  pub server : StandsBound j.jobs (end_work_at j.end_works (server_of n)) (server_of n) q
  pub program : program_of server.seat.end.program ≡ program_of client.seat.end.program

-- the tables of no core but the one at this place lead to the client's end of binding n
abbrev pub IsHome : List OneCore → ℕ → ℕ → Type 0
IsHome cores n home = (place : ℕ) (c : OneCore) (l number : ℕ) → slice_get cores place ≡ Some c
    → Leads c.finish.core.monitor.circuits l number n (End (client_of n)) → place ≡ home

-- an end's progress's jobs are those of its end's work, and the end is this core's
pub record HasOwn (j : TheJoinedJobs) (place : ℕ) (e : EndId) (jobs : List ℕ) : Type 0 where
  pub jobs_are : jobs ≡ (end_work_at j.end_works e).jobs
  pub bound : BindingCores
  pub bound_is : slice_get j.bindings e.binding ≡ Some bound
  pub core_is : core_of e.side bound ≡ place

-- so it is of all ends' progress that have any
abbrev pub HaveOwn : TheJoinedJobs → List OneCore → Type 0
HaveOwn j cores = (place : ℕ) (c : OneCore) (e : EndId) (progress : TheEndProgress) → slice_get cores place ≡ Some c → progress_of c.start e ≡ Some progress
    → (progress.jobs ≡ []) ⊎ HasOwn j place e progress.jobs

-- then no core but the binding's own leads to its client's end
abbrev pub ClientsAreHome : Type 0
ClientsAreHome = (asked : List Job) (j : TheJoinedJobs) (cores : List OneCore) → AreJoined (length cores) asked j → ArePaired j.jobs cores → HaveOwn j cores
    → (n : ℕ) (b : BindingCores) → slice_get j.bindings n ≡ Some b → IsHome cores n b.client

-- then a route leads from the one end to the other
abbrev pub BoundEndsMeet : Type 0
BoundEndsMeet = (j : TheJoinedJobs) (cores : List OneCore) → ArePaired j.jobs cores → (n : ℕ) (p q : Point) → (b : AreBound j cores n p q)
    → IsHome cores n b.client_place → ByCircuit j n p q

-- ---- what is told

-- binding n, whose two ends are bound in the end at its own cores, where their ends' progress have the jobs of their ends' work
pub record EndsBound (j : TheJoinedJobs) (cores : List OneCore) (n : ℕ) (p q : Point) : Type 0 where
  pub bound : BindingCores
  pub bound_is : slice_get j.bindings n ≡ Some bound
  pub cores_are : HasCores cores bound p.core q.core
  pub client_progress : HasProgress (end_work_at j.end_works (client_of n)) p.core.start (client_of n)
  pub server_progress : HasProgress (end_work_at j.end_works (server_of n)) q.core.start (server_of n)
  pub client : StandsBound j.jobs (end_work_at j.end_works (client_of n)) (client_of n) p
  pub server : StandsBound j.jobs (end_work_at j.end_works (server_of n)) (server_of n) q
  pub program : program_of server.seat.end.program ≡ program_of client.seat.end.program

-- what is told of it is honest
abbrev pub BoundIsHonest : Type 0
BoundIsHonest = (asked : List Job) (j : TheJoinedJobs) (cores : List OneCore) → AreJoined (length cores) asked j → ArePaired j.jobs cores → HaveOwn j cores
    → (n : ℕ) (p q : Point) → EndsBound j cores n p q → AreHonest asked j n p.core q.core
