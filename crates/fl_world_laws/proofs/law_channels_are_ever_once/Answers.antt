use Rattle.fl_world_laws.proofs.BootedStates.{ever_once}
use Rattle.fl_world_laws.proofs.law_channels_are_ever_once.Goals as goal

pub returns : goal.returns
returns c = record { once = ever_once }
