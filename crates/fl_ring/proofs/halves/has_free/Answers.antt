use Rattle.std.proofs.Common.{rules}
use Rattle.fl_ring.proofs.halves.has_free.Goals as goal

pub returns : goal.returns
returns c = search rules
