use Rattle.fl_world_refines.proofs.Taking.{take_agrees}
use Rattle.fl_world_refines.proofs.law_ends.law_take_shows.Goals as goal

pub returns : goal.returns
returns c = record { shows = take_agrees c.law_takes_in_order.ensures.takes }
