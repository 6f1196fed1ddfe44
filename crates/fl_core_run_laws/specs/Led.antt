-- That a core's table leads what goes over its links, from and to the ends of circuits here.
use Rattle.std.specs.Prelude.{ℕ, ◌≡◌, ◌⊎◌, true, List, [], slice_get, Option, Some, None}
use Rattle.fl_base.specs.declared.fragment.Frag.{Frag}
use Rattle.fl_base.specs.declared.identity.EndId.{EndId}
use Rattle.fl_base.specs.declared.identity.LinkId.{LinkId}
use Rattle.fl_base.specs.Control.{circuit_of}
use Rattle.fl_hop.specs.declared.entry.Hop.{Hop}
use Rattle.fl_hop.specs.declared.entry.HopTarget.TheVariants.{End}
use Rattle.fl_hop.specs.Table.{TheCircuits, hop_at}
use Rattle.fl_hop.specs.Numbers.{OpenedThere}
use Rattle.fl_hop.specs.Later.{way_at}
use Rattle.fl_hop.specs.Stretch.{TableStep, TableHistory}
use Rattle.fl_core.specs.BoardView.{TheEndAtChannel}
use Rattle.fl_monitor.specs.Monitors.{waiting_for}
use Rattle.fl_core.specs.declared.wiring.WiredEnd.{WiredEnd}
use Rattle.fl_core.specs.declared.wiring.EndWiring.TheVariants.{Circuit}
use Rattle.fl_core.specs.View.{TheCore, arrivals_by}

-- number c of link l leads to the end of this name for good: its opening was answered, or was the neighbour's, so that no refusal is to come
pub record IsSettled (t : TheCircuits) (l c : ℕ) (name : EndId) : Type 0 where
  pub hop : Hop
  pub there : hop_at t l c ≡ Some hop
  pub way : hop.way ≡ End name
  pub for_good : (hop.answered ≡ true) ⊎ OpenedThere t l c

-- to an end on link l, which is bound to this circuit or to none
pub record IsLedTo (t : TheCircuits) (l : ℕ) (name : EndId) (circuit : Option ℕ) : Type 0 where
  -- no number of another link leads
  pub alone : (m n : ℕ) → way_at t m n ≡ Some (End name) → m ≡ l
  -- its own does, once it is bound
  pub bound : (c : ℕ) → circuit ≡ Some c → IsSettled t l c name

-- the table leads to the ends of circuits at a core, and what the core's monitor has still to say is on circuit 0
pub record IsLed (k : TheCore) : Type 0 where
  pub ends : (e a : ℕ) (l : LinkId) (p : WiredEnd) (seat : TheEndAtChannel) → slice_get k.wired_ends e ≡ Some p
      → p.wiring ≡ Circuit l a → slice_get k.board.seats e ≡ Some seat
      → IsLedTo k.monitor.circuits l.0 p.name seat.end.circuit
  pub says : (l i : ℕ) (frag : Frag) → slice_get (waiting_for k.monitor.outboxes l) i ≡ Some frag → circuit_of frag.control ≡ 0

-- so it does at a core without ends of circuits, whose monitor has nothing to say
abbrev pub LeadsAtFirst : Type 0
LeadsAtFirst = (k : TheCore) → ((e : ℕ) (p : WiredEnd) → slice_get k.wired_ends e ≡ Some p → arrivals_by p.wiring ≡ None)
    → ((l : ℕ) → waiting_for k.monitor.outboxes l ≡ []) → IsLed k

-- these steps over a core's links, while its table became another's
abbrev pub stretch : TheCore → List TableStep → TheCore → TableHistory
stretch k steps m = record { start = k.monitor.circuits; steps = steps; finish = m.monitor.circuits }
