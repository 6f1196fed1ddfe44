use Rattle.fl_world_refines.proofs.Hearing.{opens_agree}
use Rattle.fl_world_refines.proofs.law_cores.law_opens_agree.Goals as goal

pub returns : goal.returns
returns c = record { agree = opens_agree }
