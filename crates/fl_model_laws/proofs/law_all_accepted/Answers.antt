use Rattle.fl_model_laws.proofs.Accepted.{all_accepted}
use Rattle.fl_model_laws.proofs.law_all_accepted.Goals as goal

pub returns : goal.returns
returns c = record { accepted = all_accepted }
