-- Which binding a circuit's number is of, as monitors told each other.
use Rattle.std.specs.Prelude.{ℕ, ◌≡◌, ◌⊎◌, List, [], ◌∷◌, Some, None}
use Rattle.fl_base.specs.declared.fragment.Frag.{Frag}
use Rattle.fl_base.specs.declared.identity.CoreId.{CoreId}
use Rattle.fl_base.specs.declared.identity.IRef.{IRef}
use Rattle.fl_base.specs.declared.identity.Circuit.{Circuit}
use Rattle.fl_hop.specs.declared.entry.Hop.{Hop}
use Rattle.fl_hop.specs.Table.{TheCircuits, hop_at}
use Rattle.fl_hop.specs.Numbers.{OpenedHere, OpenedThere}
use Rattle.fl_monitor.specs.declared.message.MonitorMessage.TheVariants.{OpenCircuit, CircuitRefused}
use Rattle.fl_monitor.specs.Monitors.{TheMonitor, waiting_for}
use Rattle.fl_monitor.specs.Saying.{Says}

-- the fragment is one of these
abbrev pub Has : Frag → List Frag → Type 0
Has f [] = ⊥
Has f (g ∷ frags) = (g ≡ f) ⊎ Has f frags

-- it asks for a circuit of this number, for this binding
pub record AsksFor (f : Frag) (c : Circuit) (binding : ℕ) : Type 0 where
  pub service : IRef
  pub path : List CoreId
  pub says : Says f (OpenCircuit c binding service path)

-- this core gave the number, and if an entry stands there it is of this binding
pub record IsGivenFor (t : TheCircuits) (l n binding : ℕ) : Type 0 where
  pub given : OpenedHere t l n
  pub entry : (hop : Hop) → hop_at t l n ≡ Some hop → hop.binding ≡ binding

-- one of these fragments asks for the number, for this binding
pub record IsAskedFor (frags : List Frag) (n binding : ℕ) : Type 0 where
  pub frag : Frag
  pub has : Has frag frags
  pub circuit : Circuit
  pub number : circuit.0 ≡ n
  pub asks : AsksFor frag circuit binding

-- of a monitor that said and heard these fragments, by link
pub record AreNamed (said heard : ℕ → List Frag) (m : TheMonitor) : Type 0 where
  -- what it asked for, or has still to ask for, are numbers that it gave for the bindings
  pub asked : (l : ℕ) (f : Frag) (c : Circuit) (binding : ℕ) → Has f (said l) ⊎ Has f (waiting_for m.outboxes l) → AsksFor f c binding
      → IsGivenFor m.circuits l c.0 binding
  -- where an entry stands at a number of the neighbour's, that asked for it, for the entry's binding
  pub told : (l n : ℕ) (hop : Hop) → OpenedThere m.circuits l n → hop_at m.circuits l n ≡ Some hop → IsAskedFor (heard l) n hop.binding

-- one of these fragments says that the number is refused
pub record IsRefusedIn (frags : List Frag) (n : ℕ) : Type 0 where
  pub frag : Frag
  pub has : Has frag frags
  pub circuit : Circuit
  pub number : circuit.0 ≡ n
  pub reason : ℕ
  pub says : Says frag (CircuitRefused circuit reason)

-- this is a number of the neighbour's, at which no entry stands
pub record IsFree (t : TheCircuits) (l n : ℕ) : Type 0 where
  pub there : OpenedThere t l n
  pub none : hop_at t l n ≡ None

-- of a monitor that said and heard these fragments, by link
pub record AreRefused (said heard : ℕ → List Frag) (m : TheMonitor) : Type 0 where
  -- at a number that it refused, or has still to refuse, no entry stands
  pub refused : (l : ℕ) (f : Frag) (c : Circuit) (reason : ℕ) → Has f (said l) ⊎ Has f (waiting_for m.outboxes l)
      → Says f (CircuitRefused c reason) → IsFree m.circuits l c.0
  -- where no entry stands at a number that it gave, the neighbour refused that
  pub gone : (l n : ℕ) → OpenedHere m.circuits l n → hop_at m.circuits l n ≡ None → IsRefusedIn (heard l) n
