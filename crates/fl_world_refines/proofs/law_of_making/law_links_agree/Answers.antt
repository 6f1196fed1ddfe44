use Rattle.fl_world_refines.proofs.MakingLinks.{links_agree}
use Rattle.fl_world_refines.proofs.law_of_making.law_links_agree.Goals as goal

pub returns : goal.returns
returns c = record { agree = links_agree }
