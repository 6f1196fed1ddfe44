use Rattle.fl_world_refines.proofs.EndCalling.{next_agrees}
use Rattle.fl_world_refines.proofs.law_ends.law_next_shows.Goals as goal

pub returns : goal.returns
returns c = record { shows = next_agrees }
