use Rattle.std.specs.Prelude.{length}
use Rattle.fl_cores_script.proofs.alike.+behind.Given as goal

abbrev pub decreases-behind : goal.decreases-behind
decreases-behind l = length l.bytes.now
