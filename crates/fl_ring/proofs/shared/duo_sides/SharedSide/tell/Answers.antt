use Rattle.std.proofs.Common.{rules}
use Rattle.fl_ring.proofs.shared.duo_sides.SharedSide.tell.Goals as goal

pub returns-then-index-eq-SPENT-clause-tell : goal.returns-then-index-eq-SPENT-clause-tell
returns-then-index-eq-SPENT-clause-tell c = search rules

pub returns-then-not-has_free-clause-tell : goal.returns-then-not-has_free-clause-tell
returns-then-not-has_free-clause-tell c = search rules

pub returns-clause-tell : goal.returns-clause-tell
returns-clause-tell c = search rules
