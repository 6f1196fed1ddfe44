use Rattle.fl_world_refines.proofs.Aside.{set_aside}
use Rattle.fl_world_refines.proofs.law_labels.law_links_set_aside.Goals as goal

pub returns : goal.returns
returns c = record { aside = set_aside }
