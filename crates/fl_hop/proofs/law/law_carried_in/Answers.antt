use Rattle.fl_hop.proofs.Laws.{carried_in}
use Rattle.fl_hop.proofs.law.law_carried_in.Goals as goal

pub returns : goal.returns
returns c = record { carried = carried_in }
