use Rattle.fl_world_refines.proofs.Acknowledging.{acknowledges_agree}
use Rattle.fl_world_refines.proofs.law_of_ends.law_acknowledges_agree.Goals as goal

pub returns : goal.returns
returns c = record { agree = acknowledges_agree }
