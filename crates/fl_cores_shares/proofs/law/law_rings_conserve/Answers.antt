use Rattle.fl_cores_shares.proofs.Conserving.{conserve}
use Rattle.fl_cores_shares.proofs.law.law_rings_conserve.Goals as goal

pub returns : goal.returns
returns c = record { conserve = conserve c.law_side_conserves.ensures.conserves c.law_calls_alone.ensures.prefix }
