use Rattle.fl_model_laws.proofs.RepliesStep.{few_wait}
use Rattle.fl_model_laws.proofs.law_few_replies_wait.Goals as goal

pub returns : goal.returns
returns c = record { few = few_wait }
