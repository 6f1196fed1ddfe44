use Rattle.fl_world_refines.proofs.Sides.{ring_still}
use Rattle.fl_world_refines.proofs.Standing.{queue_still}
use Rattle.fl_world_refines.proofs.law_rings.law_showings_go_on.Goals as goal

pub returns : goal.returns
returns c = record { still = λ streams more g. record { rings = ring_still streams more g; queues = queue_still streams more g } }
