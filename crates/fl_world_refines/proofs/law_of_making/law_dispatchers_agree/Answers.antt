use Rattle.fl_world_refines.proofs.MakingDispatchers.{dispatchers_agree}
use Rattle.fl_world_refines.proofs.law_of_making.law_dispatchers_agree.Goals as goal

pub returns : goal.returns
returns c = record { agree = dispatchers_agree }
