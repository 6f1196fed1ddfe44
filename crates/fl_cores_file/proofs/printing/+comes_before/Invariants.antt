use Rattle.std.specs.Prelude.{length}
use Rattle.fl_cores_file.proofs.printing.+comes_before.Given as goal

abbrev pub decreases-comes_before : goal.decreases-comes_before
decreases-comes_before l = length l.one.now
