use Rattle.fl_lex.proofs.Totals as totals
use Rattle.fl_lex.proofs.law.law_some_outcome.Goals as goal

pub returns : goal.returns
returns c = record { some = totals.some_outcome }
