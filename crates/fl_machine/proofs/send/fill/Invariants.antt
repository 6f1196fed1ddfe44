use Rattle.std.proofs.Common.{◌≡◌, ◌≤◌, ◌-◌, ◌++◌, ℕ, List, length}
use Rattle.fl_stub.specs.Locations.{IsLocation, IsSettled, bytes_from}
use Rattle.fl_machine.specs.Cursors.{location_of}
use Rattle.fl_machine.specs.Filling.{Holds}
use Rattle.fl_machine.proofs.send.fill.Given as goal

abbrev pub invariant-loop-filled : goal.invariant-loop-filled
invariant-loop-filled l =
    IsLocation l.ops (location_of l.tape l.cursor) × IsSettled l.ops (location_of l.tape l.cursor) × (l.filled ≤ 56)
    × ((put : List ℕ) × (length put ≡ l.filled) × Holds l.buffer put × (put ++ bytes_from l.ops (location_of l.tape l.cursor) ≡ bytes_from l.ops (location_of l.tape l.fn.cursor)))

abbrev pub decreases-loop-filled : goal.decreases-loop-filled
decreases-loop-filled l = 56 - l.filled
