use Rattle.fl_compile.proofs.Lawful.{sends_calls}
use Rattle.fl_compile.proofs.law.law_sends_calls.Goals as goal

pub returns : goal.returns
returns c = record { sends = sends_calls }
