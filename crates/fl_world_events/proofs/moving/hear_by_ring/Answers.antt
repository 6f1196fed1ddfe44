use Rattle.std.proofs.Common.{◌∙◌, rules}
use Rattle.fl_world_events.proofs.moving.hear_by_ring.Goals as goal

pub returns : goal.returns
returns c = record {
  hears = record {
    whole = c.law_whole.ensures.whole;
    still = c.law_whole-2.ensures.whole;
    over = record {
      side = c.side-side.result;
      lent = record { ring = c.side-side.ensures.ring; which = c.side-side.ensures.side ∙ c.which_at.ensures.which };
      left = c.hear-answer.new.from;
      event = (c.hear-answer.ensures.hears, c.hear-answer.ensures.takes);
      rest = search rules;
    };
  };
  last = c.hear-answer.ensures.last;
}
