use Rattle.fl_model_laws.proofs.RingsStep.{rings_count_in_order}
use Rattle.fl_model_laws.proofs.law_rings_count_in_order.Goals as goal

pub returns : goal.returns
returns c = record { counts = rings_count_in_order }
