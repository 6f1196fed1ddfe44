use Rattle.fl_model_laws.proofs.SoundCalls.{waiting_after}
use Rattle.fl_model_laws.proofs.law_steps_keep_waiting_replies.Goals as goal

pub returns : goal.returns
returns c = record { kept = waiting_after }
