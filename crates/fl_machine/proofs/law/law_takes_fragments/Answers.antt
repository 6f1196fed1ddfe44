use Rattle.fl_machine.proofs.Rounds.{takes_fragments}
use Rattle.fl_machine.proofs.law.law_takes_fragments.Goals as goal

pub returns : goal.returns
returns c = record { takes = takes_fragments }
