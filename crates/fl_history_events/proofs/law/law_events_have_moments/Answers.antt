use Rattle.fl_history_events.proofs.Moments.{events_have_moments}
use Rattle.fl_history_events.proofs.law.law_events_have_moments.Goals as goal

pub returns : goal.returns
returns c = record { moments = events_have_moments }
