use Rattle.fl_model_laws.proofs.ForwardsTold.{forwards_understand}
use Rattle.fl_model_laws.proofs.law_forwards_are_understood.Goals as goal

pub returns : goal.returns
returns c = record { understood = forwards_understand }
