use Rattle.std.proofs.Common.{rules}
use Rattle.fl_ring.proofs.shared.duo_making.duo.Goals as goal

pub returns-clause-one : goal.returns-clause-one
returns-clause-one c = search rules

pub returns-clause-two : goal.returns-clause-two
returns-clause-two c = search rules
