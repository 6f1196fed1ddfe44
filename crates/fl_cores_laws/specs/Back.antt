-- A circuit's route, followed back from one of its numbers, core by core. Law.
use Rattle.std.specs.Prelude.{ℕ, ◌≡◌, ◌⊎◌, List, length, slice_get, Some}
use Rattle.fl_base.specs.declared.identity.LinkId.{LinkId}
use Rattle.fl_base.specs.declared.identity.Circuit.{Circuit as Number}
use Rattle.fl_hop.specs.declared.entry.Hop.{Hop}
use Rattle.fl_hop.specs.declared.entry.HopTarget.TheVariants.{End}
use Rattle.fl_hop.specs.Joined.{Leads}
use Rattle.fl_hop.specs.Numbers.{OpenedThere}
use Rattle.fl_hop.specs.Table.{hop_at}
use Rattle.fl_core.specs.View.{client_of}
use Rattle.fl_core.specs.declared.core_job.CoreJob.{CoreJob}
use Rattle.fl_cores_laws.specs.Cores.{OneCore}
use Rattle.fl_cores_laws.specs.Circuits.{Leading, AreOneLink, Point, Station, IsRoute}
use Rattle.fl_cores_laws.specs.Neighbours.{IsUnused, ComesFrom}

-- the link on whose other side this one is
pub record HasNeighbour (cores : List OneCore) (d : OneCore) (m : LinkId) : Type 0 where
  pub place : ℕ
  pub core : OneCore
  pub core_is : slice_get cores place ≡ Some core
  pub link : LinkId
  pub one : AreOneLink core link d m

-- cores that opened nothing before their run, whose tables lead, and whose links have each a core on the other side
pub record AreLinked (jobs : List CoreJob) (cores : List OneCore) : Type 0 where
  pub leading : (n : ℕ) (c : OneCore) → slice_get cores n ≡ Some c → Leading jobs c
  pub unused : (n : ℕ) (c : OneCore) → slice_get cores n ≡ Some c → IsUnused c.start.core.monitor
  pub linked : (n number : ℕ) (d : OneCore) (m : LinkId) → slice_get cores n ≡ Some d
      → OpenedThere d.finish.core.monitor.circuits m.0 number → HasNeighbour cores d m

-- at this point a circuit begins: its entry leads from the client's end
abbrev pub IsFirst : ℕ → Point → Type 0
IsFirst binding p = Leads p.core.finish.core.monitor.circuits p.link.0 p.number.0 binding (End (client_of binding))

-- or it comes from a number that another neighbour gave, and so many stations lie behind it
pub record GoesOn (cores : List OneCore) (binding : ℕ) (p : Point) (stations : List Station) (count : ℕ) : Type 0 where
  pub long : length stations ≡ count
  pub place : ℕ
  pub core_is : slice_get cores place ≡ Some p.core
  pub link : LinkId
  pub number : Number
  pub comes : ComesFrom p.core.finish.core.monitor.circuits link number p.link p.number binding

pub record GoesBack (jobs : List CoreJob) (cores : List OneCore) (binding : ℕ) (q : Point) (count : ℕ) : Type 0 where
  pub point : Point
  pub stations : List Station
  pub route : IsRoute jobs binding point stations q
  pub before : IsFirst binding point ⊎ GoesOn cores binding point stations count

-- from a number that a neighbour gave, and at which an entry stands, the route goes back to the client's end, or over as many stations as one likes
abbrev pub RoutesGoBack : Type 0
RoutesGoBack = (jobs : List CoreJob) (cores : List OneCore) → AreLinked jobs cores
    → (place : ℕ) (q : Point) (hop : Hop) → slice_get cores place ≡ Some q.core
    → OpenedThere q.core.finish.core.monitor.circuits q.link.0 q.number.0 → hop_at q.core.finish.core.monitor.circuits q.link.0 q.number.0 ≡ Some hop
    → (count : ℕ) → GoesBack jobs cores hop.binding q count
