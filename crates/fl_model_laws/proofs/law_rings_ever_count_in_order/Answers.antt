use Rattle.fl_model_laws.proofs.RingsStep.{ever_in_order}
use Rattle.fl_model_laws.proofs.law_rings_ever_count_in_order.Goals as goal

pub returns : goal.returns
returns c = record { counts = ever_in_order }
