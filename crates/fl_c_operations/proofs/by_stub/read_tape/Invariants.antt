use Rattle.std.proofs.Common.{◌≤◌}
use Rattle.fl_c_operations.proofs.by_stub.read_tape.Given as goal

abbrev pub invariant-loop-op : goal.invariant-loop-op
invariant-loop-op l = record { few : l.count ≤ 7; far : l.used ≤ 56 }
