use Rattle.fl_world_refines.proofs.Carried.{calls_carried}
use Rattle.fl_world_refines.proofs.law_labels.law_calls_are_carried.Goals as goal

pub returns : goal.returns
returns c = record { carried = calls_carried }
