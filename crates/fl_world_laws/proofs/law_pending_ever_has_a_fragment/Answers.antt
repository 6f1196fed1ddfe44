use Rattle.fl_world_laws.proofs.BootedStates.{pending_ever_has}
use Rattle.fl_world_laws.proofs.law_pending_ever_has_a_fragment.Goals as goal

pub returns : goal.returns
returns c = record { has = pending_ever_has }
