use Rattle.fl_stub_steps.proofs.Spreads.{spreads}
use Rattle.fl_stub_steps.proofs.law.law_spreads_packed.Goals as goal

pub returns : goal.returns
returns c = record { spreads = spreads }
