-- Turns that aren't counted.
use Rattle.fl_core_run.proofs.Counting.{seen_ended, seen_stored, seen_heard, no_turns}
use Rattle.fl_core_run.proofs.Stock.{quiet, quiet_then}

pub ruleset idle = (seen_ended, seen_stored, seen_heard, no_turns, quiet, quiet_then)
