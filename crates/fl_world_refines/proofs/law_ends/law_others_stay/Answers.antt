use Rattle.fl_world_refines.proofs.Others.{parts_stay}
use Rattle.fl_world_refines.proofs.law_ends.law_others_stay.Goals as goal

pub returns : goal.returns
returns c = record { stay = parts_stay }
