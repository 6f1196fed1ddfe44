use Rattle.std.specs.Prelude.{length}
use Rattle.fl_cores_script.proofs.alike.+word_length.Given as goal

abbrev pub decreases-word_length : goal.decreases-word_length
decreases-word_length l = length l.text.now
