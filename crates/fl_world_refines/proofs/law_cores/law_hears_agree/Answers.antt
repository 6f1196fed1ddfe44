use Rattle.fl_world_refines.proofs.Hearing.{hear_agrees}
use Rattle.fl_world_refines.proofs.law_cores.law_hears_agree.Goals as goal

pub returns : goal.returns
returns c = record { agree = hear_agrees }
