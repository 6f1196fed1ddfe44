use Rattle.fl_world_refines.proofs.Sides.{stamps}
use Rattle.fl_world_refines.proofs.law_rings.law_ring_stamps.Goals as goal

pub returns : goal.returns
returns c = record { stamps = stamps }
