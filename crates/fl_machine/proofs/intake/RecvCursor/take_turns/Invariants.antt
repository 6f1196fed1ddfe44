use Rattle.std.proofs.Common.{◌≡◌, ◌+◌, ◌≤◌, ◌++◌, ℕ, List, length, take, drop}
use Rattle.fl_machine.specs.Taking.{IsFed, IsRunOf, run_at}
use Rattle.fl_machine.proofs.intake.RecvCursor.take_turns.Given as goal

abbrev pub invariant-loop-number : goal.invariant-loop-number
invariant-loop-number l = record {
  from : l.used ≤ l.end;
  inside : l.end ≤ 56;
  more : l.fn.self.count ≤ l.count;
  within : l.count ≤ length l.tape;
  long : length l.tape ≡ length l.fn.tape;
  kept : take l.fn.self.count l.tape ≡ take l.fn.self.count l.fn.tape;
  run : IsRunOf l.ops (run_at l.fn.self l.left l.count l.phase) l.field;
  fed : (before all : List ℕ) → IsFed l.ops (before ++ take l.fn.self.count l.fn.tape) l.fn.self all (drop l.used (take 56 l.buffer))
      → IsFed l.ops (before ++ take l.count l.tape) (run_at l.fn.self l.left l.count l.phase) all (drop l.end (take 56 l.buffer));
  pace : l.count + l.used ≤ l.fn.self.count + l.end;
}

abbrev pub decreases-loop-number : goal.decreases-loop-number
decreases-loop-number l = l.left
