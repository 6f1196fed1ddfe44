use Rattle.fl_stub_steps.proofs.TakesBack.{takes_back}
use Rattle.fl_stub_steps.proofs.law.law_takes_back.Goals as goal

pub returns : goal.returns
returns c = record { takes = takes_back }
