use Rattle.fl_ring.proofs.Conserved.{sender_conserves}
use Rattle.fl_ring.proofs.law.law_sender_conserves.Goals as goal

pub returns : goal.returns
returns c = record { conserves = sender_conserves }
