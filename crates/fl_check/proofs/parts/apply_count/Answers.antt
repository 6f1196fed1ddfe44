use Rattle.std.proofs.Common.{refl}
use Rattle.fl_check.proofs.parts.apply_count.Goals as goal

pub returns-in_default-clause-stands : goal.returns-in_default-clause-stands
returns-in_default-clause-stands c = rw c.in_default.is refl

pub returns-clause-stands : goal.returns-clause-stands
returns-clause-stands c = rw c.in-Some.is c.in_ok-array.ensures.stands
