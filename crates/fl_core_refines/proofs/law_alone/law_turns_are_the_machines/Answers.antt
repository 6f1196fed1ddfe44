use Rattle.fl_core_run.specs.Run.{ways}
use Rattle.fl_core_refines.proofs.Rounds.{rounds_are}
use Rattle.fl_core_refines.proofs.law_alone.law_turns_are_the_machines.Goals as goal

pub returns : goal.returns
returns g c = record { rounds = rounds_are (ways g.S.PutSide.puts g.S.TakeSide.takes g.S.TakeSide.front) c.law_steps_agree.ensures.agree }
