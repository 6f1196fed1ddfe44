use Rattle.std.proofs.Common.{◌+◌, ◌*◌, ◌≤◌, map, length, ℕ, List}
use Rattle.fl_value_data.specs.Value.{datum_of, data_from}
use Rattle.fl_value.specs.CallText.{greatest_depth, Token, a_mark}
use Rattle.fl_value.proofs.Nested.{Commas}
use Rattle.fl_value.proofs.reader.+values.Given as goal

abbrev pub decreases-read_value : goal.decreases-read_value
decreases-read_value l = 5 * l.depth + 1

abbrev pub decreases-read_nested : goal.decreases-read_nested
decreases-read_nested l = 5 * l.depth

abbrev pub decreases-push_any : goal.decreases-push_any
decreases-push_any l = 5 * l.depth + 2

abbrev pub decreases-push_value : goal.decreases-push_value
decreases-push_value l = 5 * l.depth + 3

abbrev pub decreases-read_values : goal.decreases-read_values
decreases-read_values l = 5 * l.depth + 4

abbrev pub invariant-read_values-loop-values : goal.invariant-read_values-loop-values
invariant-read_values-loop-values l = record {
  before : Commas (data_from (map datum_of l.values.items)) l.bytes l.start;
  shallow : greatest_depth (data_from (map datum_of l.values.items)) ≤ l.depth;
  near : length l.start ≤ length l.bytes;
  unclosed : (rest : List ℕ) → Token (a_mark l.closing) l.bytes rest → ⊥;
}

abbrev pub decreases-read_values-loop-values : goal.decreases-read_values-loop-values
decreases-read_values-loop-values l = length l.start
