use Rattle.fl_model.specs.Views.{event_of, answer_of}
use Rattle.fl_world.proofs.Stepped.{steps_by, agrees_by, kept_by}
use Rattle.fl_world.proofs.world.World.replay.Goals as goal

pub returns : goal.returns
returns c =
    let event = event_of c.args.event.now in
    let made = c.does-outcome.new.self in
    let steps = steps_by answer_of event c.args.self.now made c.settle_by.new.self c.does-outcome.result c.does-outcome.ensures.does c.settle_by.ensures.settled in
    record {
      steps = steps;
      agrees = agrees_by answer_of event c.args.self.now c.settle_by.new.self c.does-outcome.result c.law_steps_agree.ensures.agree steps;
      kept = kept_by c.args.self.now made c.settle_by.new.self c.does-outcome.result c.does-outcome.ensures.kept c.settle_by.ensures.kept;
      memory = c.does-outcome.ensures.memory;
      last = c.does-outcome.ensures.last;
    }
