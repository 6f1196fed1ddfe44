-- What a core says to be refused: it gave no number for that, or heard so; and that this stays.
use Rattle.std.proofs.Common.{◌≢◌, ◌⊎◌, inl, inr, ℕ, List}
use Rattle.fl_base.specs.declared.fragment.Frag.{Frag}
use Rattle.fl_base.specs.declared.identity.Circuit.{Circuit}
use Rattle.fl_hop.specs.Numbers.{OpenedHere, OpenedThere}
use Rattle.fl_hop.specs.Table.{TheCircuits}
use Rattle.fl_monitor.specs.declared.opening.Opening.{Opening}
use Rattle.fl_monitor.specs.declared.message.MonitorMessage.TheVariants.{CircuitRefused}
use Rattle.fl_monitor.specs.Monitors.{TheMonitor, waiting_for}
use Rattle.fl_monitor.specs.Saying.{Says}
use Rattle.fl_cores_laws.specs.Named.{Has}
use Rattle.fl_cores_laws.specs.Reasons.{CameUnder, AsksOnly, HeardRefused, from_link, AreGivenOnce, GivesNone, AreSettled, as_talk}
use Rattle.fl_cores_laws.proofs.Reasoned.{came_more}

module _ (W W2 : ℕ → Opening → Type 0) (t : TheCircuits) (said said2 heard heard2 : ℕ → List Frag) (m m2 : TheMonitor) (settled : AreSettled W t (as_talk said heard m))
    (here : (l n : ℕ) → OpenedHere m.circuits l n → OpenedHere m2.circuits l n) (there : (l n : ℕ) → OpenedThere m.circuits l n → OpenedThere m2.circuits l n)
    (more : (l : ℕ) (f : Frag) → Has f (heard l) → Has f (heard2 l))
    (only : (l n : ℕ) (o : Opening) → OpenedHere m.circuits l n → AsksOnly said m l n o → AsksOnly said2 m2 l n o)
    (given : AreGivenOnce W2 t (as_talk said2 heard2 m2))
    (keeps : (l n : ℕ) → OpenedThere m.circuits l n → ((k i : ℕ) (a : OpenedHere m.circuits k i) → (settled.given.given k i a).origin ≢ from_link l n)
    → (k i : ℕ) (a : OpenedHere m2.circuits k i) → (given.given k i a).origin ≢ from_link l n) where
  -- what was said, or had still to be, to refuse a number
  abbrev pub WasSaid : ℕ → Circuit → ℕ → Type 0
  WasSaid l c reason = (g : Frag) × (Has g (said l) ⊎ Has g (waiting_for m.outboxes l)) × Says g (CircuitRefused c reason)

  abbrev pub IsSettled : ℕ → Circuit → ℕ → Type 0
  IsSettled l c reason = (o : Opening) × CameUnder t heard2 l c.0 o × (GivesNone given l c.0 ⊎ HeardRefused (as_talk said2 heard2 m2) o reason)

  pub settled_still : (l : ℕ) (c : Circuit) (reason : ℕ) → WasSaid l c reason → IsSettled l c reason
  settled_still l c reason was =
      let (o, came, why) = settled.refused l was.0 c reason was.1 was.2 in (
        o,
        came_more t heard heard2 more l c.0 o came,
        elim why [
          | inl none ↦ inl (record { taken = there l c.0 none.taken; none = keeps l c.0 none.taken none.none })
          | inr h ↦ inr (record {
            link = h.link;
            frag = h.frag;
            has = more h.link h.frag h.has;
            circuit = h.circuit;
            says = h.says;
            given = here h.link h.circuit.0 h.given;
            only = only h.link h.circuit.0 o h.given h.only;
          })
        ],
      )

  pub settled_then : ((l : ℕ) (f : Frag) (c : Circuit) (reason : ℕ) → Has f (said2 l) ⊎ Has f (waiting_for m2.outboxes l) → Says f (CircuitRefused c reason)
      → WasSaid l c reason ⊎ IsSettled l c reason) → AreSettled W2 t (as_talk said2 heard2 m2)
  settled_then refuses = record {
    given = given;
    refused = λ l f c reason has says_it. elim (refuses l f c reason has says_it) [ inl old ↦ settled_still l c reason old | inr new ↦ new ];
  }
