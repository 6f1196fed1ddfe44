use Rattle.std.proofs.Common.{ℕ, List, length, subst}
use Rattle.fl_cores_fork.specs.Taking.{KeepsOthers}
use Rattle.fl_cores_fork.proofs.Moving.{keeps_first}
use Rattle.fl_cores_fork.proofs.telling.sent_by.Goals as goal

pub returns-clause-rest : goal.returns-clause-rest
returns-clause-rest c =
    let jobs = c.args.jobs.now.items in
    let left = c.move_calls.new.jobs.items in
    subst (λ (places : List ℕ). KeepsOthers places (length places) jobs left) c.deref.ensures.value
    (keeps_first _ c.deref.result.now c.first.result.now jobs left c.first.ensures.first c.in_ok-calls.ensures.rest)
