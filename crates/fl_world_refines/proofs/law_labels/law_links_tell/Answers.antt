use Rattle.fl_world_refines.proofs.Carried.{links_tell}
use Rattle.fl_world_refines.proofs.law_labels.law_links_tell.Goals as goal

pub returns : goal.returns
returns c = record { tell = links_tell }
