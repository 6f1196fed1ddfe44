use Rattle.fl_history_sides.proofs.Follow.{cores_follow}
use Rattle.fl_history_sides.proofs.law.law_cores_follow.Goals as goal

pub returns : goal.returns
returns c = record { follow = cores_follow }
