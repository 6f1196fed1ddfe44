use Rattle.std.proofs.Common.{ℕ, ◌≡◌, ◌-◌, length}
use Rattle.fl_cores_jobs.specs.EndWork.{rule_at}
use Rattle.fl_cores_jobs.proofs.end_work.reach.Given as goal

abbrev pub invariant-loop-rules : goal.invariant-loop-rules
invariant-loop-rules l = (m : ℕ) → rule_at l.rules.items m ≡ rule_at l.initial.rules.items m

abbrev pub decreases-loop-rules : goal.decreases-loop-rules
decreases-loop-rules l = l.count - length l.rules.items
