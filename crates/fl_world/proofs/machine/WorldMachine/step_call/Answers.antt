use Rattle.fl_value_data.specs.Value.{call_of}
use Rattle.fl_model.specs.Events as machine
use Rattle.fl_model.specs.Views.{brief_of}
use Rattle.fl_world.proofs.Stepped.{machine_steps, machine_kept}
use Rattle.fl_world.proofs.machine.WorldMachine.step_call.Goals as goal

pub returns : goal.returns
returns c =
    let made = c.call-outcome.new.self in
    record {
      steps = machine_steps brief_of (machine.call c.args.end (call_of c.args.call.now)) c.args.self.now made c.close_brief_by.new.self c.call-outcome.result c.law_steps_agree.ensures.agree
          c.call-outcome.ensures.calls c.close_brief_by.ensures.closed;
      kept = machine_kept c.args.self.now made c.close_brief_by.new.self c.call-outcome.result c.call-outcome.ensures.kept c.close_brief_by.ensures.kept;
    }
