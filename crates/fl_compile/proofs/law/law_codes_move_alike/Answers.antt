use Rattle.fl_compile.proofs.Alike.{codes_move_alike}
use Rattle.fl_compile.proofs.law.law_codes_move_alike.Goals as goal

pub returns : goal.returns
returns c = record { alike = codes_move_alike }
