use Rattle.fl_hop.proofs.Laws.{along}
use Rattle.fl_hop.proofs.law.law_along.Goals as goal

pub returns : goal.returns
returns c = record { prefix = λ ins outs legs h. along legs ins outs h }
