use Rattle.fl_history_events.proofs.Gathered.{gathered_events}
use Rattle.fl_history_events.proofs.law.law_gathered_events_have_one_order.Goals as goal

pub returns : goal.returns
returns c = record { order = gathered_events }
