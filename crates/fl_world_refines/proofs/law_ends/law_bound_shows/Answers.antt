use Rattle.fl_world_refines.proofs.EndCalling.{bound_is_bound}
use Rattle.fl_world_refines.proofs.law_ends.law_bound_shows.Goals as goal

pub returns : goal.returns
returns c = record { shows = bound_is_bound }
