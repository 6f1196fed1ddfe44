use Rattle.fl_world_refines.proofs.Previewing.{previews_agree}
use Rattle.fl_world_refines.proofs.law_of_ends.law_previews_agree.Goals as goal

pub returns : goal.returns
returns c = record { agree = previews_agree }
