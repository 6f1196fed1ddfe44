use Rattle.fl_hop.proofs.Laws.{carried_on}
use Rattle.fl_hop.proofs.law.law_carried_on.Goals as goal

pub returns : goal.returns
returns c = record { carried = carried_on }
