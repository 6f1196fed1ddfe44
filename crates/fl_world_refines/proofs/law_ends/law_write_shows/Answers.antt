use Rattle.fl_world_refines.proofs.EndCalling.{write_agrees}
use Rattle.fl_world_refines.proofs.law_ends.law_write_shows.Goals as goal

pub returns : goal.returns
returns g c = record { shows = write_agrees g.P.PutSide.puts }
