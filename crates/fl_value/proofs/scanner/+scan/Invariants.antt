use Rattle.std.proofs.Common.{◌+◌, ◌*◌, ◌≤◌, length, List, ℕ}
use Rattle.fl_value_data.specs.Value.{Data}
use Rattle.fl_value.specs.CallText.{greatest_depth, Token, a_mark}
use Rattle.fl_value.proofs.Nested.{Commas}
use Rattle.fl_value.proofs.scanner.+scan.Given as goal

abbrev pub decreases-after_value : goal.decreases-after_value
decreases-after_value l = 3 * l.depth + 1

abbrev pub decreases-after_nested : goal.decreases-after_nested
decreases-after_nested l = 3 * l.depth

abbrev pub decreases-after_values : goal.decreases-after_values
decreases-after_values l = 3 * l.depth + 2

abbrev pub invariant-after_values-loop-after : goal.invariant-after_values-loop-after
invariant-after_values-loop-after l = record {
  before : (ds : Data) × Commas ds l.bytes l.start × (greatest_depth ds ≤ l.depth);
  near : length l.start ≤ length l.bytes;
  unclosed : (rest : List ℕ) → Token (a_mark l.closing) l.bytes rest → ⊥;
}

abbrev pub decreases-after_values-loop-after : goal.decreases-after_values-loop-after
decreases-after_values-loop-after l = length l.start
