use Rattle.std.proofs.Common.{◌≡◌, ◌<◌, ℕ, get_or, length}
use Rattle.fl_script_lines.proofs.table.is_same.Given as goal

abbrev pub invariant-loop-place : goal.invariant-loop-place
invariant-loop-place l = record {
  long : length l.name ≡ length l.other;
  same : (k : ℕ) → k < l.place → get_or l.name k 0 ≡ get_or l.other k 0;
}
