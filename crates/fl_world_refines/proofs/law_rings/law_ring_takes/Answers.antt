use Rattle.fl_world_refines.proofs.Sides.{take_agrees}
use Rattle.fl_world_refines.proofs.law_rings.law_ring_takes.Goals as goal

pub returns : goal.returns
returns c = record { shows = take_agrees }
