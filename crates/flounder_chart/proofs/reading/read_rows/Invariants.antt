use Rattle.std.proofs.Common.{length}
use Rattle.flounder_chart.proofs.Rows.{RowsSoFar}
use Rattle.flounder_chart.proofs.reading.read_rows.Given as goal

abbrev pub invariant-items : goal.invariant-items
invariant-items l = RowsSoFar l.fn.script l.rest (length l.rows.items)

abbrev pub decreases-items : goal.decreases-items
decreases-items l = length l.rest
