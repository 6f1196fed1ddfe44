use Rattle.fl_hop.proofs.Laws.{own_alone}
use Rattle.fl_hop.proofs.law.law_own_alone.Goals as goal

pub returns : goal.returns
returns c = record { alone = own_alone }
