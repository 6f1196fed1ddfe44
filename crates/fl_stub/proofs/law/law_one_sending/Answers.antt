use Rattle.fl_stub.proofs.Giving.{one_sending}
use Rattle.fl_stub.proofs.law.law_one_sending.Goals as goal

pub returns : goal.returns
returns c = record { bytes = one_sending }
