use Rattle.std.proofs.Common.{arith}
use Rattle.fl_ring.proofs.counts.count_from.Goals as goal

pub returns-clause-count : goal.returns-clause-count
returns-clause-count c = cc

pub returns-clause-near : goal.returns-clause-near
returns-clause-near c = omega arith

pub returns-clause-only : goal.returns-clause-only
returns-clause-only c = omega arith
