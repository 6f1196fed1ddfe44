use Rattle.fl_model.specs.Events as machine
use Rattle.fl_model.specs.Views.{brief_of}
use Rattle.fl_world.proofs.Stepped.{machine_steps, machine_kept}
use Rattle.fl_world.proofs.machine.WorldMachine.step_forward.Goals as goal

pub returns : goal.returns
returns c =
    let made = c.forward-outcome.new.self in
    record {
      steps = machine_steps brief_of (machine.forward c.args.core c.args.neighbour) c.args.self.now made c.close_brief_by.new.self c.forward-outcome.result c.law_steps_agree.ensures.agree
          c.forward-outcome.ensures.forwards c.close_brief_by.ensures.closed;
      kept = machine_kept c.args.self.now made c.close_brief_by.new.self c.forward-outcome.result c.forward-outcome.ensures.kept c.close_brief_by.ensures.kept;
    }
