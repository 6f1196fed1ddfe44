-- Bindings over circuits of which one end alone is bound in the end. Laws.
use Rattle.std.specs.Prelude.{ℕ, ◌≡◌, List, [], slice_get, Some, None}
use Rattle.fl_base.specs.declared.identity.LinkId.{LinkId}
use Rattle.fl_core.specs.View.{place_of, side_of_link, client_of, server_of}
use Rattle.fl_core.specs.declared.core_job.CoreJob.{CoreJob}
use Rattle.fl_cores_jobs.specs.EndWork.{TheEndWork}
use Rattle.fl_cores_laws.specs.Cores.{OneCore}
use Rattle.fl_cores_laws.specs.Ends.{HasProgress}
use Rattle.fl_cores_laws.specs.Told.{handled_by}
use Rattle.fl_cores_laws.specs.Circuits.{Leading, Point, StandsBound}
use Rattle.fl_cores_laws.specs.Neighbours.{IsUnused}
use Rattle.fl_cores_laws.specs.Back.{HasNeighbour}
use Rattle.fl_cores_laws.specs.Whole.{GoesTo, ArePaired, IsHome}
use Rattle.fl_cores_laws.specs.Unbound.{IsLoose}
use Rattle.fl_cores_laws.specs.Stands.{IsBoundThere}

-- ---- links, as both of their cores have them

-- this link of the core at this place has another core on its other side; by their tables each goes to the place of the other
pub record IsPaired (cores : List OneCore) (place : ℕ) (d : OneCore) (m : LinkId) : Type 0 where
  pub across : HasNeighbour cores d m
  pub back : GoesTo across.core across.link place
  pub forth : GoesTo d m across.place

-- cores that opened nothing before their run, whose tables lead, and whose links are all so
pub record AreWired (jobs : List CoreJob) (cores : List OneCore) : Type 0 where
  pub leading : (n : ℕ) (c : OneCore) → slice_get cores n ≡ Some c → Leading jobs c
  pub unused : (n : ℕ) (c : OneCore) → slice_get cores n ≡ Some c → IsUnused c.start.core.monitor
  pub links : (n side : ℕ) (d : OneCore) (m : LinkId) → slice_get cores n ≡ Some d → side_of_link d.start.core.link_sides m.0 ≡ Some side → IsPaired cores n d m

-- then each link on which the other core gave a number in the run is so
abbrev pub WiredArePaired : Type 0
WiredArePaired = (jobs : List CoreJob) (cores : List OneCore) → AreWired jobs cores → ArePaired jobs cores

-- ---- the client's end is bound

-- the server's end of binding n is bound in the end, at one of these cores
pub record IsMet (cores : List OneCore) (n : ℕ) : Type 0 where
  pub place : ℕ
  pub core : OneCore
  pub core_is : slice_get cores place ≡ Some core
  pub bound : IsBoundThere core.finish (server_of n)

-- where a client's end is bound in the end, the server's is bound too
abbrev pub BoundClientsMeet : Type 0
BoundClientsMeet = (jobs : List CoreJob) (cores : List OneCore) → AreWired jobs cores → (n place : ℕ) (d : TheEndWork) (p : Point)
    → slice_get cores place ≡ Some p.core → StandsBound jobs d (client_of n) p → IsMet cores n

-- ---- the client's end isn't

-- in the end the server's end of binding n, with this end's work, is bound on the circuit of this point; the client's, at the core where it is at home, isn't
pub record WaitsAlone (jobs : List CoreJob) (cores : List OneCore) (n : ℕ) (d : TheEndWork) (q : Point) : Type 0 where
  pub home : ℕ
  pub at_home : IsHome cores n home
  pub client : OneCore
  pub client_is : slice_get cores home ≡ Some client
  pub absent : place_of client.start.core (client_of n) ≡ None
  pub loose : IsLoose client.finish (client_of n)
  pub place : ℕ
  pub server_is : slice_get cores place ≡ Some q.core
  pub progress : HasProgress d q.core.start (server_of n)
  pub stands : StandsBound jobs d (server_of n) q

-- it handled nothing
abbrev pub LoneServersRest : Type 0
LoneServersRest = (jobs : List CoreJob) (cores : List OneCore) → ArePaired jobs cores → (n : ℕ) (d : TheEndWork) (q : Point)
    → WaitsAlone jobs cores n d q → handled_by q.core.finish (server_of n) ≡ []
