use Rattle.fl_world_refines.proofs.MakingNames.{exports_agree}
use Rattle.fl_world_refines.proofs.law_of_making.law_exports_agree.Goals as goal

pub returns : goal.returns
returns c = record { agree = exports_agree }
