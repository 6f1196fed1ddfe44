-- What steps in one order of all come to over sides that face each other. Laws.
use Rattle.std.specs.Prelude.{ℕ, ◌≡◌, ◌++◌, List, length}
use mathlib.Core.Option.{some}
use lib.ListN.{get_elem?}
use Rattle.atomic_table.specs.Seated.{TableId}
use Rattle.fl_link.specs.Looks.{Look}
use Rattle.fl_ring.specs.SharedSides.{TheSide, SharedPuts, SharedTakes}
use Rattle.fl_cores_joined.specs.Rings.{AreFacing, Truly}
use Rattle.fl_history_rings.specs.declared.board.Action.{Action}
use Rattle.fl_history_rings.specs.declared.board.Entry.{Entry}
use Rattle.fl_history_rings.specs.declared.board.SideEnd.{SideEnd}
use Rattle.fl_history_rings.specs.Rings.{Way, Goes, Runs, all_empty, IsByItsCore, steps_of}
use Rattle.fl_history_rings.specs.Rule.{ArePaired, slots_of}
use Rattle.fl_history_sides.specs.Noted.{Notes}
use Rattle.fl_history_facing.specs.Facing.{side_at, facing_at, steps_by}
use Rattle.fl_core_run.specs.Run.{TheRun}
use Rattle.fl_core_run.specs.LogEntries.{LogEntry, Happens}
use Rattle.fl_cores_joined.specs.Steps.{true_ways}
use Rattle.fl_history_rings.specs.Cores.{TheCore}
use Rattle.fl_history_sides.specs.States.{TheHistorySide, side_after}
use Rattle.fl_history_sides.specs.Ways.{history_ways}
use Rattle.fl_history_entries.specs.Entries.{MayComeNext}
use Rattle.fl_history_facing.specs.Moments.{AreSidesAt, AreOfTwoCores, run_beside}

-- what the side of this number goes through by these steps of its core, behind those before them, finds what stands
-- in its ring, if it is a step of the side by itself
abbrev pub IsTrueStep : (TheSide → Look → TheSide → Type 0) → TableId → List SideEnd → List Entry → ℕ → Look
    → List Entry → Type 0
IsTrueStep step table ends log s look did =
    step (side_at table ends log s) look (side_at table ends (log ++ did) s)
    → Truly step (facing_at table ends log s) look (facing_at table ends (log ++ did) s)

-- Law: in one order of all steps each step of a side finds what stands in its ring then: what a core notes of it
-- goes behind all steps before, so its loads found what stood. The side across stays.
abbrev pub StepsAreTrue : Type 0
StepsAreTrue = (table : TableId) (ends : List SideEnd) (log : List Entry) (ways after : List Way)
    (core s : ℕ) (did : List Action) (look : Look)
    → Runs (Goes ends) (all_empty (length ends)) log ways → Runs (Goes ends) ways (steps_by core s did) after
    → Notes look did
    → IsTrueStep SharedPuts table ends log s look (steps_by core s did)
    × IsTrueStep SharedTakes table ends log s look (steps_by core s did)

-- Law: the two sides of each ring face each other, at each moment.
abbrev pub SidesFace : Type 0
SidesFace = (table : TableId) (ends : List SideEnd) (log : List Entry) (ways : List Way) (s : ℕ) (end : SideEnd)
    → ArePaired ends → Runs (Goes ends) (all_empty (length ends)) log ways → get_elem? ends s ≡ some end
    → AreFacing (facing_at table ends log s)

-- Law: what a core did itself shows its sides as all steps do.
abbrev pub OwnStepsShowSides : Type 0
OwnStepsShowSides = (table : TableId) (ends : List SideEnd) (log : List Entry) (s : ℕ) (end : SideEnd)
    → ((i : ℕ) (e : Entry) → get_elem? log i ≡ some e → IsByItsCore ends e) → get_elem? ends s ≡ some end
    → side_after table (slots_of ends s) s (steps_of end.core log) ≡ side_at table ends log s

-- Law: where the steps of an event of a core's log stand in a row in one order, it happens at that moment over
-- sides that face each other, and its loads find what stands then.
abbrev pub EntriesHappenTruly : Type 0
EntriesHappenTruly = (table : TableId) (ends : List SideEnd) (log steps : List Entry) (ways after : List Way)
    (s t : TheRun TheHistorySide) (log_entry : LogEntry) (c d : TheCore)
    → ArePaired ends → AreOfTwoCores ends
    → ((i : ℕ) (e : Entry) → get_elem? log i ≡ some e → IsByItsCore ends e)
    → Runs (Goes ends) (all_empty (length ends)) log ways → Runs (Goes ends) ways steps after
    → AreSidesAt table ends log c s.rings → AreSidesAt table ends (log ++ steps) d t.rings
    → d.number ≡ c.number → d.steps ≡ c.steps ++ steps
    → Happens history_ways log_entry s t → MayComeNext log_entry s
    → Happens true_ways log_entry (run_beside table ends log s) (run_beside table ends log t)
