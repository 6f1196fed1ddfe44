-- Events of cores that are gathered from one table.
use Rattle.std.specs.Prelude.{ℕ, ◌≡◌, List, [], length}
use mathlib.Core.Option.{some}
use lib.ListN.{get_elem?}
use Rattle.fl_history_rings.specs.declared.board.Entry.{Entry}
use Rattle.fl_history_rings.specs.declared.board.SideEnd.{SideEnd}
use Rattle.fl_history_rings.specs.Rings.{Way, all_empty}
use Rattle.fl_history_rings.specs.Cores.{TheCore, InOneOrder}
use Rattle.fl_history_rings.specs.Laws.{IsAmong}
use Rattle.fl_history_events.specs.Events.{joined, AreEvents, all_steps, EventsInOneOrder}

-- What each of these cores did, cut into events. No other core has events.
pub record AreCut (cores : List TheCore) (events : ℕ → List (List Entry)) : Type 0 where
  pub whole : (i : ℕ) (c : TheCore) → get_elem? cores i ≡ some c → joined (events c.number) ≡ c.steps
  pub each : (core : ℕ) → AreEvents (events core)
  pub no_more : (core : ℕ) → (IsAmong cores core → ⊥) → events core ≡ []

-- One order of these events, from when the rings were empty. The steps of the events, in that order, are one
-- order of all that these cores did. So what holds of any such order holds of this one.
pub record GatheredInOneOrder (ends : List SideEnd) (cores : List TheCore) (events : ℕ → List (List Entry))
    (queues : List Way) : Type 0 where
  pub whole : EventsInOneOrder ends (all_empty (length ends)) events queues
  pub steps : InOneOrder ends cores
  pub log_is : steps.log ≡ all_steps whole.order
  pub queues_are : steps.queues ≡ queues
