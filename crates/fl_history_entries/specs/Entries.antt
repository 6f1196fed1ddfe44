-- What a core at a table of rings does step by step where an event of its log happens.
use Rattle.std.specs.Prelude.{ℕ, ◌≡◌, List, ◌++◌, slice_get, Some}
use Rattle.fl_base.specs.declared.fragment.Frag.{Frag}
use Rattle.fl_hop.specs.declared.forward.ForwardOutcome.TheVariants.{Moved}
use Rattle.fl_core.specs.declared.wiring.Inlet.TheVariants as inlet
use Rattle.fl_core.specs.View.{place_of, inlet_of}
use Rattle.fl_core_run.specs.Run.{TheRun}
use Rattle.fl_core_run.specs.LogEntries.{LogEntry, passed, turned}
use Rattle.fl_history_rings.specs.declared.board.Entry.{Entry}
use Rattle.fl_history_rings.specs.Cores.{TheCore}
use Rattle.fl_history_sides.specs.States.{TheHistorySide}
use Rattle.fl_history_events.specs.Events.{IsEventAfter}

-- The steps of d are those of c, and behind them these, which can happen at one moment.
pub record DidAnEvent (c d : TheCore) : Type 0 where
  pub steps : List Entry
  pub did : d.steps ≡ c.steps ++ steps
  pub is_event : IsEventAfter c.steps steps

-- a fragment was seen at this side, and not taken
abbrev pub HasSeen : TheRun TheHistorySide → ℕ → Type 0
HasSeen s n = (p : TheHistorySide) × (frag : Frag) × (slice_get s.rings n ≡ Some p) × (p.side.peeked ≡ Some frag)

-- What is known where a log goes on with this: where a fragment passes on, one was seen at the side from which it
-- comes; and a turn looks at the side from which its end takes.
abbrev pub MayComeNext : LogEntry → TheRun TheHistorySide → Type 0
MayComeNext (passed n m frag c Moved) s = HasSeen s n
MayComeNext (turned d name (inlet.Side n) answer) s =
    (e : ℕ) → place_of s.core name ≡ Some e → inlet_of s.core e ≡ Some (inlet.Side n)
MayComeNext log_entry s = Unit {0}
