use Rattle.fl_link.proofs.Conserved.{puts_of-join, takes_of-join}
use Rattle.fl_link.proofs.law.law_filters_join.Goals as goal

pub returns : goal.returns
returns c = record { puts = puts_of-join; takes = takes_of-join }
