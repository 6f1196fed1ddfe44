use Rattle.fl_world_refines.proofs.EndCalling.{call_agrees}
use Rattle.fl_world_refines.proofs.law_ends.law_call_shows.Goals as goal

pub returns : goal.returns
returns c = record { shows = call_agrees }
