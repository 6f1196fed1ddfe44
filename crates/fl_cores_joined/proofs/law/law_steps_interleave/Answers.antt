use Rattle.fl_cores_joined.proofs.Delaying.{steps_interleave, followed_interleave}
use Rattle.fl_cores_joined.proofs.law.law_steps_interleave.Goals as goal

pub returns : goal.returns
returns c = record { steps = steps_interleave; followed = followed_interleave }
