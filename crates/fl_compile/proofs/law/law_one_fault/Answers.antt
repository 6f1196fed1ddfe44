use Rattle.fl_compile.proofs.OneFault.{one_fault, one_refusal}
use Rattle.fl_compile.proofs.law.law_one_fault.Goals as goal

pub returns : goal.returns
returns c = record { fault = one_fault; refusal = one_refusal }
