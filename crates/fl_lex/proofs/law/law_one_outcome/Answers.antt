use Rattle.fl_lex.proofs.law.law_one_outcome.Goals as goal
use Rattle.fl_lex.proofs.Outcomes as outcomes

pub returns : goal.returns
returns c = record { one = outcomes.one_outcome }
