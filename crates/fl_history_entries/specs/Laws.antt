-- Each event of a core's log is one of its steps. Laws.
use Rattle.std.specs.Prelude.{ℕ, Ok}
use Rattle.fl_base.specs.declared.fragment.Frag.{Frag}
use Rattle.fl_base.specs.declared.identity.LinkId.{LinkId}
use Rattle.fl_base.specs.declared.identity.Circuit.{Circuit}
use Rattle.fl_core.specs.declared.answer.LinkFront.TheVariants.{Onward}
use Rattle.fl_core_run.specs.Run.{TheRun}
use Rattle.fl_core_run.specs.LogEntries.{LogEntry, looked, Happens}
use Rattle.fl_history_rings.specs.Cores.{TheCore}
use Rattle.fl_history_sides.specs.States.{TheHistorySide}
use Rattle.fl_history_sides.specs.Core.{AreSidesOf}
use Rattle.fl_history_sides.specs.Ways.{history_ways}
use Rattle.fl_history_entries.specs.Entries.{DidAnEvent, HasSeen, MayComeNext}

-- Law: what a core does by its sides where an event of its log happens can happen at one moment. Its sides are
-- those of core c before, and of core d then; where a fragment passes on, one was seen before.
abbrev pub EntriesAreEvents : Type 0
EntriesAreEvents = (s t : TheRun TheHistorySide) (log_entry : LogEntry) (c d : TheCore)
    → AreSidesOf c s.rings → AreSidesOf d t.rings → Happens history_ways log_entry s t → MayComeNext log_entry s
    → DidAnEvent c d

-- Law: a look that finds a fragment which passes on leaves its side with one seen and not taken.
abbrev pub LooksSee : Type 0
LooksSee = (s t : TheRun TheHistorySide) (n to : ℕ) (l : LinkId) (frag : Frag) (circuit : Circuit)
    → Happens history_ways (looked n l (Ok (Onward frag to circuit))) s t → HasSeen t n
