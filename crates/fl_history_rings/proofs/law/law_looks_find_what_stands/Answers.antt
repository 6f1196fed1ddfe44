use Rattle.fl_history_rings.proofs.Laws.{looks_find}
use Rattle.fl_history_rings.proofs.law.law_looks_find_what_stands.Goals as goal

pub returns : goal.returns
returns c = record { looks = looks_find }
