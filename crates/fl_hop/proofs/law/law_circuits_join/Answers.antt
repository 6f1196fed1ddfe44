use Rattle.fl_hop.proofs.Laws.{of_join, of_prefix, of_bare}
use Rattle.fl_hop.proofs.law.law_circuits_join.Goals as goal

pub returns : goal.returns
returns c = record { joins = of_join; prefix = of_prefix; set_aside = of_bare }
