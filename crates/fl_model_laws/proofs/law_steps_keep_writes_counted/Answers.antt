use Rattle.fl_model_laws.proofs.SoundCalls.{counted_after}
use Rattle.fl_model_laws.proofs.law_steps_keep_writes_counted.Goals as goal

pub returns : goal.returns
returns c = record { kept = counted_after }
