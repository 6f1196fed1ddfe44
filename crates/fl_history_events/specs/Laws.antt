-- Where steps of many cores have one order, and what each core did is cut into events, the events have one
-- order. Laws.
use Rattle.std.specs.Prelude.{ℕ, ◌≡◌, ◌⊎◌, List, [], ◌++◌}
use mathlib.Core.Option.{some}
use lib.ListN.{get_elem?}
use Rattle.fl_history_rings.specs.declared.board.Entry.{Entry}
use Rattle.fl_history_rings.specs.declared.board.SideEnd.{SideEnd}
use Rattle.fl_history_rings.specs.Rings.{Way, Goes, Runs, IsByItsCore}
use Rattle.fl_history_rings.specs.Cores.{TheCore, InOneOrder}
use Rattle.fl_history_rings.specs.Laws.{AllAreAmong}
use Rattle.fl_history_events.specs.Events.{IsEvent, IsEventAfter, HaveMoment, IsCut, EventsInOneOrder}
use Rattle.fl_history_events.specs.Gathered.{AreCut, GatheredInOneOrder}

-- Law: where steps have one order, each by its core, and what each core did is cut into events, the events
-- have one order, in which the steps of each stand side by side. It leads to the same.
abbrev pub EventsHaveOneOrder : Type 0
EventsHaveOneOrder = (ends : List SideEnd) (before after : List Way) (log : List Entry) (cores : ℕ)
    (events : ℕ → List (List Entry)) → Runs (Goes ends) before log after
    → ((i : ℕ) (e : Entry) → get_elem? log i ≡ some e → IsByItsCore ends e)
    → IsCut cores log events → EventsInOneOrder ends before events after

-- Law: so it is of cores that are gathered, where all cores of the sides are. Their steps in the order of the
-- events have one order again, with the same in the ways in the end.
abbrev pub GatheredEventsHaveOneOrder : Type 0
GatheredEventsHaveOneOrder = (ends : List SideEnd) (cores : List TheCore) (order : InOneOrder ends cores)
    (events : ℕ → List (List Entry)) → AllAreAmong cores ends → AreCut cores events
    → GatheredInOneOrder ends cores events order.queues

-- Law: steps that have a moment are an event, and an event has one, unless it has no step.
pub record EventsHaveMoments : Type 0 where
  pub event_has : (past steps : List Entry) → IsEventAfter past steps → (steps ≡ []) ⊎ HaveMoment past steps
  pub are_event : (past steps : List Entry) → HaveMoment past steps → IsEventAfter past steps

-- Law: an event that stopped halfway is an event as far as it came.
abbrev pub BegunEventsAreEvents : Type 0
BegunEventsAreEvents = (past steps more : List Entry) → IsEventAfter past (steps ++ more) → IsEventAfter past steps

-- Law: what is an event whatever its core did before is one after anything.
abbrev pub EventsStayEvents : Type 0
EventsStayEvents = (past steps : List Entry) → IsEvent steps → IsEventAfter past steps
