use Rattle.fl_world_refines.proofs.Boxes.{monitors_begin}
use Rattle.fl_world_refines.proofs.law_cores.law_monitors_begin.Goals as goal

pub returns : goal.returns
returns c = record { begin = monitors_begin }
