use Rattle.fl_endpoint.proofs.Readings.{takes_next}
use Rattle.fl_endpoint.proofs.law.law_takes_in_order.Goals as goal

pub returns : goal.returns
returns c = record { takes = λ s f more left. takes_next s f more left c.law_none_begins_with_another.ensures.prefix }
