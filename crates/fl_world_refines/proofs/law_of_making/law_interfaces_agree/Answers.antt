use Rattle.fl_world_refines.proofs.MakingParts.{interfaces_agree}
use Rattle.fl_world_refines.proofs.law_of_making.law_interfaces_agree.Goals as goal

pub returns : goal.returns
returns c = record { agree = interfaces_agree }
