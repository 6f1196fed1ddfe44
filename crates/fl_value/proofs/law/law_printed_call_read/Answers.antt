use Rattle.fl_value.proofs.Round.{call_comes_back, fitting_comes_back}
use Rattle.fl_value.proofs.law.law_printed_call_read.Goals as goal

pub returns : goal.returns
returns c = record { reading = call_comes_back; fitting = fitting_comes_back }
