use Rattle.fl_history_rings.proofs.First.{no_others}
use Rattle.fl_history_rings.proofs.law.law_no_others.Goals as goal

pub returns : goal.returns
returns c = record { others = no_others }
