use Rattle.fl_compile.proofs.Lawful.{compiles_to_code}
use Rattle.fl_compile.proofs.law.law_compiles_to_code.Goals as goal

pub returns : goal.returns
returns c = record { code = compiles_to_code }
