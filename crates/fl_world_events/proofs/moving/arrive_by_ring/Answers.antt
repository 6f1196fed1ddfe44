use Rattle.std.proofs.Common.{◌∙◌, rules}
use Rattle.fl_world_events.proofs.moving.arrive_by_ring.Goals as goal

pub returns : goal.returns
returns c = record {
  arrives = record {
    whole = c.law_whole.ensures.whole;
    still = c.law_whole-2.ensures.whole;
    over = record {
      side = c.side-side.result;
      lent = record { ring = c.side-side.ensures.ring; which = c.side-side.ensures.side ∙ c.which_at.ensures.which };
      left = c.arrive-outcome.new.from;
      event = (c.arrive-outcome.result, c.arrive-outcome.ensures.arrives, c.answer_arrival.ensures.moved);
      rest = search rules;
    };
  };
}
