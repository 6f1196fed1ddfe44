use Rattle.fl_value_data.proofs.Untaped.{one_call}
use Rattle.fl_value_data.proofs.law.law_one_call_of_a_tape.Goals as goal

pub returns : goal.returns
returns c = record { one = one_call }
