use Rattle.std.proofs.Common.{rules}
use Rattle.fl_ring.proofs.shared.duo_sides.SharedSide.known.Goals as goal

pub returns-clause-known : goal.returns-clause-known
returns-clause-known c = cc

pub returns-clause-near : goal.returns-clause-near
returns-clause-near c = search rules
