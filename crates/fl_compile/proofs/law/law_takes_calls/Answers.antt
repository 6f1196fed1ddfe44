use Rattle.fl_compile.proofs.Lawful.{takes_calls}
use Rattle.fl_compile.proofs.law.law_takes_calls.Goals as goal

pub returns : goal.returns
returns c = record { takes = takes_calls }
