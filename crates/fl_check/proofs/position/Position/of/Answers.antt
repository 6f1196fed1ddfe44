use Rattle.std.proofs.Common.{arith}
use Rattle.std.proofs.lemmas.Grind.{common_steps}
use Rattle.std.proofs.lemmas.List.{length-take}
use Rattle.std.proofs.lemmas.List.Sums.{suffix_len-le-length}
use Rattle.fl_check.proofs.position.Position.of.Goals as goal

pub overflow_add-column : goal.overflow_add-column
overflow_add-column c = grind (arith, common_steps, suffix_len-le-length, length-take)
