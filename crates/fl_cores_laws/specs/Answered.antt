-- Which circuits are open, as monitors told each other. Laws.
use Rattle.std.specs.Prelude.{ℕ, ◌≡◌, ◌⊎◌, true, List, slice_get, Some}
use Rattle.fl_base.specs.declared.fragment.Frag.{Frag}
use Rattle.fl_base.specs.declared.identity.LinkId.{LinkId}
use Rattle.fl_base.specs.declared.identity.Circuit.{Circuit}
use Rattle.fl_ring.specs.SharedSides.{TheSide}
use Rattle.fl_hop.specs.declared.entry.Hop.{Hop}
use Rattle.fl_hop.specs.declared.entry.HopTarget.{HopTarget}
use Rattle.fl_hop.specs.declared.entry.HopTarget.TheVariants.{Link, End}
use Rattle.fl_hop.specs.Numbers.{OpenedHere, OpenedThere}
use Rattle.fl_hop.specs.OfCircuit.{of_circuit}
use Rattle.fl_hop.specs.Stretch.{TableStep, taken_from, put_on}
use Rattle.fl_hop.specs.Table.{TheCircuits, hop_at}
use Rattle.fl_monitor.specs.declared.message.MonitorMessage.TheVariants.{CircuitOpened}
use Rattle.fl_monitor.specs.Monitors.{TheMonitor, waiting_for}
use Rattle.fl_monitor.specs.Saying.{Says}
use Rattle.fl_core.specs.View.{side_of_link}
use Rattle.fl_core.specs.declared.core_job.CoreJob.{CoreJob}
use Rattle.fl_core_run_laws.specs.Flows.{SideCarries}
use Rattle.fl_cores_laws.specs.Cores.{shared_ways, OneCore}
use Rattle.fl_cores_laws.specs.Circuits.{Leading, AreOneLink}
use Rattle.fl_cores_laws.specs.Named.{Has}
use Rattle.fl_cores_laws.specs.Neighbours.{IsUnused}

-- one of these fragments says that the number is open
pub record IsOpenedIn (frags : List Frag) (n : ℕ) : Type 0 where
  pub frag : Frag
  pub has : Has frag frags
  pub circuit : Circuit
  pub number : circuit.0 ≡ n
  pub says : Says frag (CircuitOpened circuit)

-- an entry stands at the number whose opening was answered
pub record IsAnswered (t : TheCircuits) (l n : ℕ) : Type 0 where
  pub hop : Hop
  pub there : hop_at t l n ≡ Some hop
  pub yes_is : hop.answered ≡ true

-- this way is open: to an end here, or to a number whose opening was answered
abbrev pub IsOpenWay : TheCircuits → HopTarget → Type 0
IsOpenWay t (End e) = Unit {0}
IsOpenWay t (Link m d) = IsAnswered t m.0 d.0

-- this is a number of the neighbour's, and the entry there leads an open way
pub record IsOpen (t : TheCircuits) (l n : ℕ) : Type 0 where
  pub there : OpenedThere t l n
  pub hop : Hop
  pub stands : hop_at t l n ≡ Some hop
  pub way : IsOpenWay t hop.way

-- of a monitor that said and heard these fragments, by link
pub record AreAnswered (said heard : ℕ → List Frag) (m : TheMonitor) : Type 0 where
  -- a number that it said is open, or has still to say, is so
  pub opened : (l : ℕ) (f : Frag) (c : Circuit) → Has f (said l) ⊎ Has f (waiting_for m.outboxes l) → Says f (CircuitOpened c) → IsOpen m.circuits l c.0
  -- of a number of its own that was answered it heard so
  pub answered : (l n : ℕ) → OpenedHere m.circuits l n → IsAnswered m.circuits l n → IsOpenedIn (heard l) n

-- fragments went over a core's links in these steps; of those on circuit 0, what says that a number is open is true, and is heard where one was answered
pub record GoesAnswered (c : OneCore) : Type 0 where
  pub steps : List TableStep
  pub links : (l n : ℕ) (p : TheSide) → side_of_link c.start.core.link_sides l ≡ Some n → slice_get c.start.rings n ≡ Some p
      → SideCarries shared_ways.puts shared_ways.takes (record { put = put_on l steps; took = taken_from l steps }) p c.finish.rings n
  pub answered : AreAnswered (λ l. of_circuit 0 (put_on l steps)) (λ l. of_circuit 0 (taken_from l steps)) c.finish.core.monitor

-- so it is in every run of a core that opened nothing before
abbrev pub CoresAnswer : Type 0
CoresAnswer = (jobs : List CoreJob) (c : OneCore) → Leading jobs c → IsUnused c.start.core.monitor → GoesAnswered c

-- where a number that a core gave on a link was answered, the neighbour's entry there leads an open way
abbrev pub NeighboursOpen : Type 0
NeighboursOpen = (jobs : List CoreJob) (c d : OneCore) (l m : LinkId) → Leading jobs c → Leading jobs d
    → IsUnused c.start.core.monitor → IsUnused d.start.core.monitor → AreOneLink c l d m
    → (n : ℕ) → OpenedHere c.finish.core.monitor.circuits l.0 n → IsAnswered c.finish.core.monitor.circuits l.0 n → IsOpen d.finish.core.monitor.circuits m.0 n
