use Rattle.fl_compile.proofs.Spreading.{packs, spreads_calls}
use Rattle.fl_compile.proofs.law.law_spreads_calls.Goals as goal

pub returns : goal.returns
returns c = record { packs = packs; spreads = spreads_calls }
