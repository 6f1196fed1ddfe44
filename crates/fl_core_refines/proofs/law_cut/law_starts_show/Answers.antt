use Rattle.fl_core_refines.proofs.Starting.{starts_show}
use Rattle.fl_core_refines.proofs.law_cut.law_starts_show.Goals as goal

pub returns : goal.returns
returns c = record { show = starts_show }
