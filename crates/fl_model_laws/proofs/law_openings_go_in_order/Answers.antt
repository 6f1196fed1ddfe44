use Rattle.fl_model_laws.proofs.OpeningsLaw.{openings_in_runs}
use Rattle.fl_model_laws.proofs.law_openings_go_in_order.Goals as goal

pub returns : goal.returns
returns c = record { order = openings_in_runs }
