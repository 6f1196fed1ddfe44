use Rattle.fl_world_laws.proofs.BootedStates.{ever_given_once}
use Rattle.fl_world_laws.proofs.law_numbers_are_ever_given_once.Goals as goal

pub returns : goal.returns
returns c = record { once = ever_given_once }
