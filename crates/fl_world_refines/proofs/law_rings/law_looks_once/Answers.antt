use Rattle.fl_world_refines.proofs.Sides.{looks_once}
use Rattle.fl_world_refines.proofs.law_rings.law_looks_once.Goals as goal

pub returns : goal.returns
returns c = record { once = looks_once }
