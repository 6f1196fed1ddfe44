use Rattle.std.proofs.Common.{◌≡◌, ◌≤◌, ◌-◌, [], length}
use Rattle.fl_stub.specs.Locations.{IsLocation}
use Rattle.fl_machine.specs.Filling.{PutsRun}
use Rattle.fl_machine.specs.Straight.{straight_location}
use Rattle.fl_machine.proofs.send.put_straight.Given as goal

abbrev pub invariant-loop-number : goal.invariant-loop-number
invariant-loop-number l = record {
  inside : l.filled ≤ 56;
  long : length l.buffer ≡ 56;
  location : IsLocation l.ops (straight_location l.tape l.place l.next l.filled);
  puts : PutsRun l.ops (straight_location l.tape 0 0 0) (straight_location l.tape l.place l.next l.filled) [] l.buffer l.filled;
}

abbrev pub decreases-loop-number : goal.decreases-loop-number
decreases-loop-number l = length l.ops - l.place
