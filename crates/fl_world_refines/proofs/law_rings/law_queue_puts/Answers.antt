use Rattle.fl_world_refines.proofs.Standing.{queue_put_agrees}
use Rattle.fl_world_refines.proofs.law_rings.law_queue_puts.Goals as goal

pub returns : goal.returns
returns c = record { shows = queue_put_agrees }
