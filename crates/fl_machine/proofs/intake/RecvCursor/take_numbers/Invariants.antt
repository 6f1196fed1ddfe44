use Rattle.std.proofs.Common.{◌≡◌, ◌+◌, ◌-◌, ◌%◌, ◌≤◌, ◌++◌, ℕ, List, length, take, drop}
use Rattle.fl_machine.specs.Taking.{IsFed}
use Rattle.fl_machine.specs.Straight.{straight_behind}
use Rattle.fl_machine.proofs.intake.RecvCursor.take_numbers.Given as goal

abbrev pub invariant-loop-more : goal.invariant-loop-more
invariant-loop-more l = record {
  from : l.used ≤ l.end;
  inside : l.end ≤ 56;
  more : l.fn.self.count ≤ l.count;
  within : l.count ≤ length l.tape;
  long : length l.tape ≡ length l.fn.tape;
  kept : take l.fn.self.count l.tape ≡ take l.fn.self.count l.fn.tape;
  fed : (before all : List ℕ) → IsFed l.ops (before ++ take l.fn.self.count l.fn.tape) l.fn.self all (drop l.used (take 56 l.buffer))
      → IsFed l.ops (before ++ take l.count l.tape) (straight_behind l.fn.self l.place l.count ((l.fn.self.phase % 8 + (l.end - l.used)) % 8)) all (drop l.end (take 56 l.buffer));
  pace : l.count + l.used ≤ l.fn.self.count + l.end;
}

abbrev pub decreases-loop-more : goal.decreases-loop-more
decreases-loop-more l = 56 - l.end
