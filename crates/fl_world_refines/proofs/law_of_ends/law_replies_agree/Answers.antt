use Rattle.fl_world_refines.proofs.Calling.{replies_agree}
use Rattle.fl_world_refines.proofs.law_of_ends.law_replies_agree.Goals as goal

pub returns : goal.returns
returns c = record { agree = replies_agree }
