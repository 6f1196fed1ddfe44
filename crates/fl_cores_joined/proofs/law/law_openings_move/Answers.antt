use Rattle.fl_cores_joined.proofs.Exchanging.{openings_go_ahead, openings_stay_behind}
use Rattle.fl_cores_joined.proofs.law.law_openings_move.Goals as goal

pub returns : goal.returns
returns c = record { ahead = openings_go_ahead; behind = openings_stay_behind }
