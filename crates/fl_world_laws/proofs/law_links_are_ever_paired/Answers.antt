use Rattle.fl_world_laws.proofs.BootedStates.{ever_paired}
use Rattle.fl_world_laws.proofs.law_links_are_ever_paired.Goals as goal

pub returns : goal.returns
returns c = record { paired = ever_paired }
