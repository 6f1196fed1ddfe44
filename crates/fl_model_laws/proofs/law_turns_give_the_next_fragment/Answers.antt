use Rattle.fl_model_laws.proofs.TurnsTold.{turns_give_the_next}
use Rattle.fl_model_laws.proofs.law_turns_give_the_next_fragment.Goals as goal

pub returns : goal.returns
returns c = record { next = turns_give_the_next }
