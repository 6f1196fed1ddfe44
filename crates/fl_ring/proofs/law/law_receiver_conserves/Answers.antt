use Rattle.fl_ring.proofs.Conserved.{receiver_conserves}
use Rattle.fl_ring.proofs.law.law_receiver_conserves.Goals as goal

pub returns : goal.returns
returns c = record { conserves = receiver_conserves }
