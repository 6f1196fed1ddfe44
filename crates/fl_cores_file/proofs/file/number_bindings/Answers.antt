use Rattle.std.proofs.Common.{arith}
use Rattle.std.proofs.lemmas.Grind.{common_steps}
use Rattle.fl_cores_file.proofs.file.number_bindings.Goals.{then-binding+in_ok-push, else-binding+in_ok-push-2}
use Rattle.fl_cores_file.proofs.file.number_bindings.Goals as goal

pub loop-binding-preserved : goal.loop-binding-preserved
loop-binding-preserved c = elim c.if-binding.branch [
  | then-binding+in_ok-push w ↦ grind (arith, common_steps)
  | else-binding+in_ok-push-2 w ↦ grind (arith, common_steps)
]
