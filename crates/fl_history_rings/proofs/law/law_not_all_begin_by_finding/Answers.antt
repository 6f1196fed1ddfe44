use Rattle.fl_history_rings.proofs.First.{not_all_begin}
use Rattle.fl_history_rings.proofs.law.law_not_all_begin_by_finding.Goals as goal

pub returns : goal.returns
returns c = record { first = not_all_begin }
