use Rattle.fl_world_laws.proofs.BootedStates.{ever_counted}
use Rattle.fl_world_laws.proofs.law_writes_are_ever_counted.Goals as goal

pub returns : goal.returns
returns c = record { counted = ever_counted }
