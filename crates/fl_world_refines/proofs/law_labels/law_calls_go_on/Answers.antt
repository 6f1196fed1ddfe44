use Rattle.fl_world_refines.proofs.Carried.{off_links, goes_on}
use Rattle.fl_world_refines.proofs.law_labels.law_calls_go_on.Goals as goal

pub returns : goal.returns
returns c = record { goes_on = λ s fit keep small. (off_links s fit keep, goes_on c.law_on_another_circuit.ensures.on s fit keep small) }
