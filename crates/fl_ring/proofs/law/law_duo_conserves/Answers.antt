use Rattle.fl_ring.proofs.Conserved.{duo_conserves}
use Rattle.fl_ring.proofs.law.law_duo_conserves.Goals as goal

pub returns : goal.returns
returns c = record { conserves = duo_conserves }
