use Rattle.std.proofs.Common.{◌≡◌, ◌≤◌, ℕ, List, length}
use Rattle.fl_stub.specs.Locations.{IsLocation}
use Rattle.fl_machine.specs.Cursors.{location_of, turns_of, IsRun}
use Rattle.fl_machine.specs.Filling.{Holds, PutsRun}
use Rattle.fl_machine.proofs.send.put_run.Given as goal

abbrev pub invariant-loop-end : goal.invariant-loop-end
invariant-loop-end l =
    IsLocation l.ops (location_of l.tape l.cursor) × IsRun l.ops l.cursor × (l.end ≤ 56) × (l.cursor.width ≡ l.fn.cursor.width) × (length l.buffer ≡ 56)
    × ((put : List ℕ) → length put ≡ l.at → Holds l.fn.buffer put → PutsRun l.ops (location_of l.tape l.fn.cursor) (location_of l.tape l.cursor) put l.buffer l.end)

abbrev pub decreases-loop-end : goal.decreases-loop-end
decreases-loop-end l = turns_of l.cursor
