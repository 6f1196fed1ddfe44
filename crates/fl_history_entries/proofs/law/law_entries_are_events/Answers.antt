use Rattle.fl_history_entries.proofs.Happening.{entries_are_events}
use Rattle.fl_history_entries.proofs.law.law_entries_are_events.Goals as goal

pub returns : goal.returns
returns c = record { events = entries_are_events }
