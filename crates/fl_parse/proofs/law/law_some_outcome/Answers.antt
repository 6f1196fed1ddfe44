use Rattle.fl_parse.proofs.Outcomes as outcomes
use Rattle.fl_parse.proofs.law.law_some_outcome.Goals as goal

pub returns : goal.returns
returns c = record { some = outcomes.some_outcome }
