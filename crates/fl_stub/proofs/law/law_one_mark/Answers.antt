use Rattle.fl_stub.proofs.Agreeing.{one_mark, one_leaving}
use Rattle.fl_stub.proofs.law.law_one_mark.Goals as goal

pub returns : goal.returns
returns c = record { mark = one_mark; leaving = one_leaving }
