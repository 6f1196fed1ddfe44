use Rattle.fl_ring.proofs.Conserved.{ring_conserves}
use Rattle.fl_ring.proofs.law.law_ring_conserves.Goals as goal

pub returns : goal.returns
returns c = record { conserves = ring_conserves }
