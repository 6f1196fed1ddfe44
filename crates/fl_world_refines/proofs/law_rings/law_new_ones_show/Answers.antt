use Rattle.fl_world_refines.proofs.Standing.{new_show}
use Rattle.fl_world_refines.proofs.law_rings.law_new_ones_show.Goals as goal

pub returns : goal.returns
returns c = record { new = new_show }
