use Rattle.fl_world_refines.proofs.JoiningBinds.{binds_agree}
use Rattle.fl_world_refines.proofs.law_of_joining.law_binds_agree.Goals as goal

pub returns : goal.returns
returns c = record { agree = binds_agree }
