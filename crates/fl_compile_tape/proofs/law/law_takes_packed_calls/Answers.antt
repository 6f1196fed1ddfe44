use Rattle.fl_compile_tape.proofs.TapesTaken.{takes_packed_calls}
use Rattle.fl_compile_tape.proofs.law.law_takes_packed_calls.Goals as goal

pub returns : goal.returns
returns c = record { takes = takes_packed_calls }
