use Rattle.std.proofs.Common.{◌∙◌, rules}
use Rattle.fl_world_events.proofs.moving.look_by_ring.Goals as goal

pub returns : goal.returns
returns c = record {
  looks = record {
    whole = c.law_whole.ensures.whole;
    still = c.law_whole-2.ensures.whole;
    over = record {
      side = c.side-side.result;
      lent = record { ring = c.side-side.ensures.ring; which = c.side-side.ensures.side ∙ c.which_at.ensures.which };
      left = c.look-ahead.new.from;
      event = c.look-ahead.ensures.looks;
      rest = search rules;
    };
  };
}
