use Rattle.std.proofs.Common.{◌≡◌}
use Rattle.fl_stub.specs.Locations.{bytes_from, location_given, IsLocation}
use Rattle.fl_machine.specs.Cursors.{location_of}
use Rattle.fl_machine.proofs.cursor.SendCursor.settle.Given as goal

abbrev pub invariant-loop-self : goal.invariant-loop-self
invariant-loop-self l = IsLocation l.ops (location_of l.tape l.self) × (bytes_from l.ops (location_of l.tape l.fn.self) ≡ bytes_from l.ops (location_of l.tape l.self))

abbrev pub decreases-loop-self : goal.decreases-loop-self
decreases-loop-self l = (location_given l.ops (location_of l.tape l.self)).steps
