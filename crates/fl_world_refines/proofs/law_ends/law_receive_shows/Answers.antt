use Rattle.fl_world_refines.proofs.Receiving.{receive_agrees}
use Rattle.fl_world_refines.proofs.law_ends.law_receive_shows.Goals as goal

pub returns : goal.returns
returns g c = record { shows = receive_agrees c.law_take_shows.ensures.shows g.T.TakeSide.takes }
