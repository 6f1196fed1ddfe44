use Rattle.fl_model_laws.proofs.WritesTold.{shows_understand}
use Rattle.fl_model_laws.proofs.law_shows_are_understood.Goals as goal

pub returns : goal.returns
returns c = record { understood = shows_understand }
