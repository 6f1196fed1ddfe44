use Rattle.fl_cores_whole.proofs.Wants.{turns_want_alike}
use Rattle.fl_cores_whole.proofs.law.law_turns_want_alike.Goals as goal

pub returns : goal.returns
returns g c = record { alike = turns_want_alike g.T.TakeSide.takes }
