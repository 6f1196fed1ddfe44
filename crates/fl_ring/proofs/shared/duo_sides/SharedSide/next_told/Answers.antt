use Rattle.std.proofs.Common.{rules}
use Rattle.fl_ring.proofs.shared.duo_sides.SharedSide.next_told.Goals as goal

pub returns : goal.returns
returns c = search rules
