use Rattle.fl_world_refines.proofs.Beginning.{fresh_shows}
use Rattle.fl_world_refines.proofs.law_of_steps.law_fresh_world_shows.Goals as goal

pub returns : goal.returns
returns c = record { shows = fresh_shows }
