use Rattle.std.proofs.Common.{Ok}
use Rattle.fl_model.specs.Events as machine
use Rattle.fl_model.specs.Views.{brief_of}
use Rattle.fl_world.proofs.Stepped.{machine_steps}
use Rattle.fl_world.proofs.machine.WorldMachine.step_ack.Goals as goal

pub returns : goal.returns
returns c = record {
  steps = machine_steps brief_of (machine.ack c.args.end) c.args.self.now c.ack-answer.new.self c.close_brief.new.self (Ok c.ack-answer.result) c.law_steps_agree.ensures.agree
      c.ack-answer.ensures.acks c.close_brief.ensures.closed;
  kept = tt;
}
