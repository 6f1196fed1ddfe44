use Rattle.fl_world_refines.proofs.Calling.{calls_agree}
use Rattle.fl_world_refines.proofs.law_of_ends.law_calls_agree.Goals as goal

pub returns : goal.returns
returns c = record { agree = calls_agree }
