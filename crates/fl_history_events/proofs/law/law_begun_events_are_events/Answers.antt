use Rattle.fl_history_events.proofs.Moments.{begun_events}
use Rattle.fl_history_events.proofs.law.law_begun_events_are_events.Goals as goal

pub returns : goal.returns
returns c = record { begun = begun_events }
