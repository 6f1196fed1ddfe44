use Rattle.fl_model.specs.Views.{answer_of}
use Rattle.fl_world.proofs.Runs.{steps_as, shows_still}
use Rattle.fl_world.proofs.machine.WorldMachine.step.Goals as goal

pub returns-clause-steps : goal.returns-clause-steps
returns-clause-steps c = steps_as answer_of _ _ _ c.replay.result c.replay.ensures.agrees

pub returns-clause-kept : goal.returns-clause-kept
returns-clause-kept c = shows_still c.replay.result _ _ c.replay.ensures.kept
