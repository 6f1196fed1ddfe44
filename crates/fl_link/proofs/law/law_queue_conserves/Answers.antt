use Rattle.fl_link.proofs.Conserved.{queue_conserves}
use Rattle.fl_link.proofs.law.law_queue_conserves.Goals as goal

pub returns : goal.returns
returns c = record { conserves = queue_conserves }
