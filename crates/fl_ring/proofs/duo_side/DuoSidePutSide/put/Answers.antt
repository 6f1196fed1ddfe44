use Rattle.std.proofs.Common.{rules}
use Rattle.fl_ring.proofs.duo_side.DuoSidePutSide.put.Goals as goal

pub returns-clause-placed : goal.returns-clause-placed
returns-clause-placed c = search rules

pub returns-clause-full : goal.returns-clause-full
returns-clause-full c = search rules

pub returns-clause-spent : goal.returns-clause-spent
returns-clause-spent c = search rules
