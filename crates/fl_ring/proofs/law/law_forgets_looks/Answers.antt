use Rattle.fl_ring.proofs.Forgets.{forgets_looks}
use Rattle.fl_ring.proofs.law.law_forgets_looks.Goals as goal

pub returns : goal.returns
returns c = record { forgets = forgets_looks }
