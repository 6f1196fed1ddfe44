use Rattle.fl_history_facing.proofs.Sides.{sides_face}
use Rattle.fl_history_facing.proofs.law.law_sides_face.Goals as goal

pub returns : goal.returns
returns c = record { face = sides_face }
