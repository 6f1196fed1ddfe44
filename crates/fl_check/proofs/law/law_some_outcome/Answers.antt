use Rattle.fl_check.proofs.Firsts as firsts
use Rattle.fl_check.proofs.law.law_some_outcome.Goals as goal

pub returns : goal.returns
returns c = record { some = firsts.some_outcome }
