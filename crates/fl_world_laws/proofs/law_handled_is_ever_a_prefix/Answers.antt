use Rattle.fl_world_laws.proofs.BootedLaws.{handled_is_ever_a_prefix}
use Rattle.fl_world_laws.proofs.law_handled_is_ever_a_prefix.Goals as goal

pub returns : goal.returns
returns c = record { prefix = handled_is_ever_a_prefix }
