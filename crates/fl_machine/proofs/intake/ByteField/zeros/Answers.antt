use Rattle.std.proofs.Common.{refl}
use Rattle.fl_machine.proofs.intake.ByteField.zeros.Goals as goal

pub returns : goal.returns
returns c = refl
