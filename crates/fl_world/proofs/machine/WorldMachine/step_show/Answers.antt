use Rattle.std.proofs.Common.{Ok}
use Rattle.fl_model.specs.Events as machine
use Rattle.fl_model.specs.Views.{answer_of}
use Rattle.fl_world.proofs.Stepped.{machine_steps}
use Rattle.fl_world.proofs.machine.WorldMachine.step_show.Goals as goal

pub returns : goal.returns
returns c = record {
  steps = machine_steps answer_of (machine.show c.args.end) c.args.self.now c.show-answer.new.self c.close.new.self (Ok c.show-answer.result) c.law_steps_agree.ensures.agree
      c.show-answer.ensures.shows c.close.ensures.closed;
  kept = tt;
}
