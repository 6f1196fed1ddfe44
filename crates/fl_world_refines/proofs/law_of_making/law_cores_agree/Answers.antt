use Rattle.fl_world_refines.proofs.MakingFresh.{cores_agree}
use Rattle.fl_world_refines.proofs.law_of_making.law_cores_agree.Goals as goal

pub returns : goal.returns
returns c = record { agree = cores_agree }
