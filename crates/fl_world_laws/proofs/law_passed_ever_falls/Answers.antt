use Rattle.fl_world_laws.proofs.BootedStates.{passed_ever_falls}
use Rattle.fl_world_laws.proofs.law_passed_ever_falls.Goals as goal

pub returns : goal.returns
returns c = record { falls = passed_ever_falls }
