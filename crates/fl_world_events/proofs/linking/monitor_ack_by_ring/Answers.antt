use Rattle.std.proofs.Common.{◌∙◌, rules, refl}
use Rattle.fl_world_events.proofs.linking.monitor_ack_by_ring.Goals as goal

pub returns : goal.returns
returns c = record {
  acks = record {
    whole = c.law_whole.ensures.whole;
    still = c.law_whole.ensures.whole;
    over = record {
      side = c.side-side.result;
      lent = record { ring = c.side-side.ensures.ring; which = c.side-side.ensures.side ∙ c.which_at.ensures.which };
      left = c.monitor_ack.new.from;
      event = (c.monitor_ack.result, c.monitor_ack.ensures.acks, refl, c.whole.ensures.whole ∙ c.answer_ack.ensures.acked);
      rest = search rules;
    };
  };
}
