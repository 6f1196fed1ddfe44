use Rattle.fl_cores_laws.proofs.Turns.{kept}
use Rattle.fl_cores_laws.proofs.law_endings.law_turns_are_kept.Goals as goal

pub returns : goal.returns
returns c = record { kept = kept }
