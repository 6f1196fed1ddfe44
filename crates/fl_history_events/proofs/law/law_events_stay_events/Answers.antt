use Rattle.fl_history_events.proofs.Moments.{stay_events}
use Rattle.fl_history_events.proofs.law.law_events_stay_events.Goals as goal

pub returns : goal.returns
returns c = record { stay = stay_events }
