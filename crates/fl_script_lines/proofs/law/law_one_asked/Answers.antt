use Rattle.fl_script_lines.proofs.AskedLemmas.{one_asked_is}
use Rattle.fl_script_lines.proofs.law.law_one_asked.Goals as goal

pub returns : goal.returns
returns c = record { one = one_asked_is c.law_one_reading.ensures.reading }
