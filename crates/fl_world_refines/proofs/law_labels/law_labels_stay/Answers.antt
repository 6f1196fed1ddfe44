use Rattle.fl_world_refines.proofs.Carried.{labels_stay}
use Rattle.fl_world_refines.proofs.law_labels.law_labels_stay.Goals as goal

pub returns : goal.returns
returns c = record { stay = labels_stay }
