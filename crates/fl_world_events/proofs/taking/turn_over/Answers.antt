use Rattle.std.proofs.Common.{◌∙◌, rules}
use Rattle.fl_world_events.proofs.taking.turn_over.Goals as goal

pub returns-clause-turns : goal.returns-clause-turns
returns-clause-turns c = record {
  whole = c.law_whole.ensures.whole;
  still = c.law_whole-2.ensures.whole;
  over = record {
    side = c.side-side.result;
    lent = record { ring = c.side-side.ensures.ring; which = c.side-side.ensures.side ∙ c.which_at.ensures.which };
    left = c.turn-answer.new.from;
    event = c.turn-answer.ensures.turns;
    rest = search rules;
  };
}

pub returns-clause-kept : goal.returns-clause-kept
returns-clause-kept c = c.turn-answer.ensures.kept
