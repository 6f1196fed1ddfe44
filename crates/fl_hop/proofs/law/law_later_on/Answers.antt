use Rattle.fl_hop.proofs.Laws.{later_same, later_chain, one_entry}
use Rattle.fl_hop.proofs.law.law_later_on.Goals as goal

pub returns : goal.returns
returns c = record { same = later_same; further = later_chain; one = one_entry }
