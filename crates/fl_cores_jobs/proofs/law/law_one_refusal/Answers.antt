use Rattle.fl_cores_jobs.proofs.FirstFault.{one_refusal, no_refusal}
use Rattle.fl_cores_jobs.proofs.law.law_one_refusal.Goals as goal

pub returns : goal.returns
returns c = record { one = one_refusal; none = no_refusal }
