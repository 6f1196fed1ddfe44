use Rattle.fl_compile.proofs.Telling.{tells_faults}
use Rattle.fl_compile.proofs.law.law_tells_faults.Goals as goal

pub returns : goal.returns
returns c = record { tells = tells_faults }
