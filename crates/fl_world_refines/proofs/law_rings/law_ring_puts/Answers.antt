use Rattle.fl_world_refines.proofs.Sides.{put_agrees}
use Rattle.fl_world_refines.proofs.law_rings.law_ring_puts.Goals as goal

pub returns : goal.returns
returns c = record { shows = put_agrees }
