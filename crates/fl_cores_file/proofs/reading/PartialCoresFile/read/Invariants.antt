use Rattle.std.proofs.Common.{◌≤◌, ◌+◌, ◌*◌, List, length}
use Rattle.fl_script_lines.specs.Items.{Item, ItemsOf}
use Rattle.fl_cores_file.specs.CoresFile.{FileOutcome, beginning, ReadsFrom}
use Rattle.fl_cores_file.specs.Files.{reading_of}
use Rattle.fl_cores_file.proofs.LineLemmas.{total}
use Rattle.fl_cores_file.proofs.reading.PartialCoresFile.read.Given as goal

abbrev pub invariant-loop-rest : goal.invariant-loop-rest
invariant-loop-rest l =
    ((o : FileOutcome) → ReadsFrom (reading_of l.self) l.line l.rest o → ReadsFrom beginning 1 l.text o)
    × ((items : List Item) → ItemsOf l.rest items → l.line + total items ≤ 1 + 2 * length l.text)

abbrev pub decreases-loop-rest : goal.decreases-loop-rest
decreases-loop-rest l = length l.rest
