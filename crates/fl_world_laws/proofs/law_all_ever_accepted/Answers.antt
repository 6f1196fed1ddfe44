use Rattle.fl_world_laws.proofs.BootedLaws.{all_ever_accepted}
use Rattle.fl_world_laws.proofs.law_all_ever_accepted.Goals as goal

pub returns : goal.returns
returns c = record { accepted = all_ever_accepted }
