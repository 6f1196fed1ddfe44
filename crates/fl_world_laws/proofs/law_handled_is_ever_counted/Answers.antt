use Rattle.fl_world_laws.proofs.BootedLaws.{handled_is_ever_counted}
use Rattle.fl_world_laws.proofs.law_handled_is_ever_counted.Goals as goal

pub returns : goal.returns
returns c = record { counted = handled_is_ever_counted }
