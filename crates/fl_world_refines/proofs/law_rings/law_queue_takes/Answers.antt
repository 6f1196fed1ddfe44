use Rattle.fl_world_refines.proofs.Standing.{queue_take_agrees}
use Rattle.fl_world_refines.proofs.law_rings.law_queue_takes.Goals as goal

pub returns : goal.returns
returns c = record { shows = queue_take_agrees }
