use Rattle.fl_stub.proofs.Taking.{one_taking}
use Rattle.fl_stub.proofs.law.law_one_taking.Goals as goal

pub returns : goal.returns
returns c = record { tape = one_taking }
