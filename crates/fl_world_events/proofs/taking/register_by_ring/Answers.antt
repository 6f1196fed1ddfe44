use Rattle.std.proofs.Common.{◌∙◌, rules}
use Rattle.fl_world_events.proofs.taking.register_by_ring.Goals as goal

pub returns : goal.returns
returns c = record {
  registers = record {
    whole = c.law_whole.ensures.whole;
    still = c.law_whole-2.ensures.whole;
    over = record {
      side = c.side-side.result;
      lent = record { ring = c.side-side.ensures.ring; which = c.side-side.ensures.side ∙ c.which_at.ensures.which };
      left = c.register-outcome.new.from;
      event = (c.register-outcome.result, c.register-outcome.ensures.registers, c.answer_register.ensures.registered);
      rest = search rules;
    };
  };
}
