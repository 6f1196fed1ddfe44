use Rattle.fl_value.proofs.Words.{call_once}
use Rattle.fl_value.proofs.law.law_one_reading.Goals as goal

pub returns : goal.returns
returns c = record { reading = call_once }
