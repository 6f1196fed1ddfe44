use Rattle.fl_model_laws.proofs.TurnsTold.{turns_understand}
use Rattle.fl_model_laws.proofs.law_turns_are_understood.Goals as goal

pub returns : goal.returns
returns c = record { understood = turns_understand }
