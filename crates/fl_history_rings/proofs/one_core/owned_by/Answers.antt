use Rattle.std.proofs.Common.{refl}
use Rattle.fl_history_rings.proofs.SideCalls.{there_as_read, owned_else, nobody_there}
use Rattle.fl_history_rings.proofs.one_core.owned_by.Goals as goal

pub returns-in_default-clause-none : goal.returns-in_default-clause-none
returns-in_default-clause-none c = λ _ mine. nobody_there c.args.sides.now c.args.side mine.0 c.in_default.ensures.lookup.0 mine.1

pub returns-then-end-core-clause-none : goal.returns-then-end-core-clause-none
returns-then-end-core-clause-none c = λ _ mine.
    owned_else c.args.sides.now c.args.side c.args.core c.in-Some.end.now (there_as_read c.args.sides.now c.args.side c.in-Some.end.now c.in-Some.ensures.lookup.0 c.in-Some.ensures.lookup.1) c.if-end-core.true mine

pub returns-clause-some : goal.returns-clause-some
returns-clause-some c = (
  c.in-Some.end.now,
  there_as_read c.args.sides.now c.args.side c.in-Some.end.now c.in-Some.ensures.lookup.0 c.in-Some.ensures.lookup.1,
  c.if-end-core.false,
  refl,
)
