use Rattle.fl_model_laws.proofs.WorldReplies.{ever_few_wait}
use Rattle.fl_model_laws.proofs.law_few_replies_ever_wait.Goals as goal

pub returns : goal.returns
returns c = record { few = ever_few_wait }
