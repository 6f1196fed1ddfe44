use Rattle.std.proofs.Common.{rules}
use Rattle.fl_ring.proofs.one_ring.OneRing.peek.Goals as goal

pub returns-in-Some-2-clause-look : goal.returns-in-Some-2-clause-look
returns-in-Some-2-clause-look c = search rules

pub returns-in-Some-2-clause-front : goal.returns-in-Some-2-clause-front
returns-in-Some-2-clause-front c = search rules
