use Rattle.std.proofs.Common.{◌∙◌, rules}
use Rattle.fl_world_events.proofs.linking.monitor_write_by_ring.Goals as goal

pub returns : goal.returns
returns c = record {
  writes = record {
    whole = c.law_whole.ensures.whole;
    still = c.law_whole-2.ensures.whole;
    over = record {
      side = c.side-side.result;
      lent = record { ring = c.side-side.ensures.ring; which = c.side-side.ensures.side ∙ c.which_at.ensures.which };
      left = c.monitor_write-outcome.new.out;
      event = (c.monitor_write-outcome.result, c.monitor_write-outcome.ensures.writes, c.answer_write.ensures.told);
      rest = search rules;
    };
  };
}
