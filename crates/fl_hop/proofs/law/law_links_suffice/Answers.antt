use Rattle.fl_hop.proofs.Limits.{links_suffice}
use Rattle.fl_hop.proofs.law.law_links_suffice.Goals as goal

pub returns : goal.returns
returns c = record { suffice = links_suffice }
