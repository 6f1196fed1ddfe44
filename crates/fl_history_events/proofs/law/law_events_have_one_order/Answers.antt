use Rattle.fl_history_events.proofs.Ordering.{events_have_one_order}
use Rattle.fl_history_events.proofs.law.law_events_have_one_order.Goals as goal

pub returns : goal.returns
returns c = record { order = events_have_one_order }
