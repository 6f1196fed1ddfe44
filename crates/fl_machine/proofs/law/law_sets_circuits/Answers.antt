use Rattle.fl_machine.proofs.Circuits.{sets_circuits, keeps_meanings}
use Rattle.fl_machine.proofs.law.law_sets_circuits.Goals as goal

pub returns : goal.returns
returns c = record { sets = sets_circuits; means = keeps_meanings }
