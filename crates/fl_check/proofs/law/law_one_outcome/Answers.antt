use Rattle.fl_check.proofs.Firsts as firsts
use Rattle.fl_check.proofs.law.law_one_outcome.Goals as goal

pub returns : goal.returns
returns c = record { unique = firsts.one_outcome }
