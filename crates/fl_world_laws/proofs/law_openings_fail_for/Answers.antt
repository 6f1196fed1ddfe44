use Rattle.fl_world_laws.proofs.OpeningAnswers.{openings_fail_for}
use Rattle.fl_world_laws.proofs.law_openings_fail_for.Goals as goal

pub returns : goal.returns
returns c = record { faults = openings_fail_for }
