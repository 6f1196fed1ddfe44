use Rattle.fl_ring.proofs.Conserved.{side_conserves}
use Rattle.fl_ring.proofs.law.law_side_conserves.Goals as goal

pub returns : goal.returns
returns c = record { conserves = side_conserves }
