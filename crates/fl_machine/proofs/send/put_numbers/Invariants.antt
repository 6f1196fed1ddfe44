use Rattle.std.proofs.Common.{◌≡◌, ◌≢◌, ◌≤◌, ◌-◌, [], length}
use Rattle.fl_stub.specs.Locations.{IsLocation}
use Rattle.fl_machine.specs.Cursors.{location_of}
use Rattle.fl_machine.specs.Filling.{PutsRun}
use Rattle.fl_machine.specs.Straight.{cursor_on}
use Rattle.fl_machine.proofs.send.put_numbers.Given as goal

abbrev pub invariant-loop-number : goal.invariant-loop-number
invariant-loop-number l = record {
  inside : l.filled ≤ 56;
  long : length l.buffer ≡ 56;
  busy : l.width ≢ 0;
  location : IsLocation l.ops (location_of l.tape (cursor_on l.fn.cursor l.place l.next l.phase l.value l.width));
  puts : PutsRun l.ops (location_of l.tape l.fn.cursor) (location_of l.tape (cursor_on l.fn.cursor l.place l.next l.phase l.value l.width)) [] l.buffer l.filled;
}

abbrev pub decreases-loop-number : goal.decreases-loop-number
decreases-loop-number l = 56 - l.filled
