use Rattle.std.proofs.Common.{refl, sym}
use Rattle.fl_c_operations.proofs.Refused.{unbound, bound, busy, idle}
use Rattle.fl_c_operations.proofs.transmitting.refused.Goals as goal

pub returns-then-not-is_bound-clause-some : goal.returns-then-not-is_bound-clause-some
returns-then-not-is_bound-clause-some c = λ call fits. (fits, unbound c.args.end.now.circuit c.if-not-is_bound.ensures.bound, refl)

pub returns-then-is_failed-clause-some : goal.returns-then-is_failed-clause-some
returns-then-is_failed-clause-some c = λ call fits. (fits, (bound c.args.end.now.circuit c.if-not-is_bound.ensures.bound, sym c.if-is_failed.ensures.failed), refl)

pub returns-then-is_busy-clause-some : goal.returns-then-is_busy-clause-some
returns-then-is_busy-clause-some c = λ call fits. (
  fits,
  (bound c.args.end.now.circuit c.if-not-is_bound.ensures.bound, sym c.if-is_failed.ensures.failed),
  busy c.args.end.now.outgoing.unwritten c.if-is_busy.ensures.busy,
  refl,
)

pub returns-then-not-is_bound-clause-not_memory : goal.returns-then-not-is_bound-clause-not_memory
returns-then-not-is_bound-clause-not_memory c = λ e. absurd (cc)

pub returns-then-is_failed-clause-not_memory : goal.returns-then-is_failed-clause-not_memory
returns-then-is_failed-clause-not_memory c = λ e. absurd (cc)

pub returns-then-is_busy-clause-not_memory : goal.returns-then-is_busy-clause-not_memory
returns-then-is_busy-clause-not_memory c = λ e. absurd (cc)

pub returns-clause-none : goal.returns-clause-none
returns-clause-none c = (
  (bound c.args.end.now.circuit c.if-not-is_bound.ensures.bound, sym c.if-is_failed.ensures.failed),
  idle c.args.end.now.outgoing.unwritten c.if-is_busy.ensures.busy,
)
