use Rattle.fl_cores_joined.proofs.RenamedFirst.{in_any_order}
use Rattle.fl_cores_joined.proofs.RenamedNumbers.{numbers_are_given}
use Rattle.fl_cores_joined.proofs.RenamedRuns.{runs_join_under}
use Rattle.fl_cores_joined.proofs.law.law_runs_join_in_any_order.Goals as goal

pub returns : goal.returns
returns c = record {
  numbers = numbers_are_given;
  under = runs_join_under c.law_steps_agree.ensures.agree c.law_on_another_circuit.ensures.on;
  runs = in_any_order c.law_steps_agree.ensures.agree c.law_on_another_circuit.ensures.on;
}
