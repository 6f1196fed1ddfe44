use Rattle.std.specs.Prelude.{length}
use Rattle.fl_cores_replay.proofs.lines.split_file.Given as goal

abbrev pub decreases-loop-rest : goal.decreases-loop-rest
decreases-loop-rest l = length l.rest
