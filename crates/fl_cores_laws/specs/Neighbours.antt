-- That the cores on the two sides of a link mean one binding by each of its numbers. Laws.
use Rattle.std.specs.Prelude.{ℕ, ◌≡◌, ◌⊎◌, List, [], slice_get, Some}
use Rattle.fl_base.specs.declared.fragment.Frag.{Frag}
use Rattle.fl_base.specs.declared.identity.LinkId.{LinkId}
use Rattle.fl_base.specs.declared.identity.Circuit.{Circuit as Number}
use Rattle.fl_ring.specs.SharedSides.{TheSide}
use Rattle.fl_hop.specs.declared.entry.Hop.{Hop}
use Rattle.fl_hop.specs.declared.entry.HopTarget.TheVariants.{Link, End}
use Rattle.fl_hop.specs.declared.links.LinkState.{LinkState}
use Rattle.fl_hop.specs.Joined.{Leads}
use Rattle.fl_hop.specs.Numbers.{OpenedHere, OpenedThere}
use Rattle.fl_hop.specs.OfCircuit.{of_circuit}
use Rattle.fl_hop.specs.Stretch.{TableStep, taken_from, put_on}
use Rattle.fl_hop.specs.Table.{TheCircuits, hop_at}
use Rattle.fl_monitor.specs.Monitors.{TheMonitor}
use Rattle.fl_core.specs.View.{side_of_link, client_of}
use Rattle.fl_core.specs.declared.core_job.CoreJob.{CoreJob}
use Rattle.fl_core_run_laws.specs.Flows.{SideCarries}
use Rattle.fl_cores_laws.specs.Cores.{shared_ways, OneCore}
use Rattle.fl_cores_laws.specs.Circuits.{Leading, AreOneLink}
use Rattle.fl_cores_laws.specs.Named.{AreNamed, AreRefused}

-- nothing waits to be said, and no number of a link was given, by either of its cores
pub record IsUnused (m : TheMonitor) : Type 0 where
  pub outboxes : (l : ℕ) (frags : List Frag) → slice_get m.outboxes l ≡ Some frags → frags ≡ []
  pub counts : (l : ℕ) (link : LinkState) → slice_get m.circuits.links l ≡ Some link → (link.opened ≡ 0) × (link.taken ≡ 0)

-- fragments went over a core's links in these steps, as the links' sides placed and took them; of those on circuit 0, which monitors say and hear, what
-- asks for circuits names each number by its binding, and entries go by refusals alone
pub record GoesNamed (c : OneCore) : Type 0 where
  pub steps : List TableStep
  pub links : (l n : ℕ) (p : TheSide) → side_of_link c.start.core.link_sides l ≡ Some n → slice_get c.start.rings n ≡ Some p
      → SideCarries shared_ways.puts shared_ways.takes (record { put = put_on l steps; took = taken_from l steps }) p c.finish.rings n
  pub named : AreNamed (λ l. of_circuit 0 (put_on l steps)) (λ l. of_circuit 0 (taken_from l steps)) c.finish.core.monitor
  pub refused : AreRefused (λ l. of_circuit 0 (put_on l steps)) (λ l. of_circuit 0 (taken_from l steps)) c.finish.core.monitor

-- so it is in every run of a core that opened nothing before
abbrev pub CoresName : Type 0
CoresName = (jobs : List CoreJob) (c : OneCore) → Leading jobs c → IsUnused c.start.core.monitor → GoesNamed c

-- an entry of this binding stands at a number that this core gave
pub record StandsHere (t : TheCircuits) (l n binding : ℕ) : Type 0 where
  pub given : OpenedHere t l n
  pub hop : Hop
  pub there : hop_at t l n ≡ Some hop
  pub binding_is : hop.binding ≡ binding

-- where an entry stands at a number that the neighbour gave on a link, the neighbour gave it, and its own entry stands there, of the same binding
abbrev pub NeighboursAgree : Type 0
NeighboursAgree = (jobs : List CoreJob) (c d : OneCore) (l m : LinkId) → Leading jobs c → Leading jobs d
    → IsUnused c.start.core.monitor → IsUnused d.start.core.monitor → AreOneLink c l d m
    → (n : ℕ) (hop : Hop) → OpenedThere d.finish.core.monitor.circuits m.0 n → hop_at d.finish.core.monitor.circuits m.0 n ≡ Some hop
    → StandsHere c.finish.core.monitor.circuits l.0 n hop.binding

-- so that entry leads from the client's end, or from a number that another neighbour gave: one station of the circuit's route further back
pub record ComesFrom (t : TheCircuits) (m : LinkId) (d : Number) (l : LinkId) (n : Number) (binding : ℕ) : Type 0 where
  pub given : OpenedThere t m.0 d.0
  pub leads : Leads t m.0 d.0 binding (Link l n)

abbrev pub EntriesLeadBack : Type 0
EntriesLeadBack = (jobs : List CoreJob) (c d : OneCore) (l m : LinkId) → Leading jobs c → Leading jobs d
    → IsUnused c.start.core.monitor → IsUnused d.start.core.monitor → AreOneLink c l d m
    → (n : Number) (hop : Hop) → OpenedThere d.finish.core.monitor.circuits m.0 n.0 → hop_at d.finish.core.monitor.circuits m.0 n.0 ≡ Some hop
    → Leads c.finish.core.monitor.circuits l.0 n.0 hop.binding (End (client_of hop.binding))
    ⊎ ((x : LinkId) × (i : Number) × ComesFrom c.finish.core.monitor.circuits x i l n hop.binding)
