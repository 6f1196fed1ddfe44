use Rattle.std.proofs.Common.{◌≡◌, ◌-◌, ◌+◌, ◌≤◌, ◌++◌, length, take, drop}
use Rattle.fl_machine.proofs.intake.put_bytes.Given as goal

abbrev pub invariant-loop-index : goal.invariant-loop-index
invariant-loop-index l =
    (l.index ≤ l.many) × (take (l.count + l.index) l.tape ≡ take l.count l.fn.tape ++ take l.index (drop l.from l.buffer))
    × (take l.count l.tape ≡ take l.count l.fn.tape) × (length l.tape ≡ length l.fn.tape)

abbrev pub decreases-loop-index : goal.decreases-loop-index
decreases-loop-index l = l.many - l.index
