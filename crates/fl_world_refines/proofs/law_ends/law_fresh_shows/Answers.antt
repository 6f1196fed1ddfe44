use Rattle.fl_world_refines.proofs.EndCalling.{fresh_is}
use Rattle.fl_world_refines.proofs.law_ends.law_fresh_shows.Goals as goal

pub returns : goal.returns
returns c = record { shows = fresh_is }
