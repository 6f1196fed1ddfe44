use Rattle.fl_model_laws.proofs.Refusals.{refusals_same}
use Rattle.fl_model_laws.proofs.law_refusals_change_nothing.Goals as goal

pub returns : goal.returns
returns c = record { same = refusals_same }
