use Rattle.fl_ring.specs.Side.{SideTakes}
use Rattle.fl_world_events.proofs.GivenBack.{by_ring_left}
use Rattle.fl_world_events.proofs.Wanting.{handles_call}
use Rattle.fl_world_events.proofs.taking.turn_by_ring.Goals as goal

pub returns-in-Ok-clause-turns : goal.returns-in-Ok-clause-turns
returns-in-Ok-clause-turns c =
    let h = c.in-Ok.ensures.turns in
    by_ring_left c.answer_turn.ensures.same
    (record {
      whole = h.whole;
      still = h.still;
      over = record {
        side = h.over.side;
        lent = h.over.lent;
        left = h.over.left;
        event = (c.in-Ok.answer, c.law_sound.ensures.sound, h.over.event, c.answer_turn.ensures.turned);
        rest = h.over.rest;
      };
    })

pub returns-in-Err-clause-wants : goal.returns-in-Err-clause-wants
returns-in-Err-clause-wants c =
    let h = c.in-Err.ensures.turns.over in
    record {
      side = h.side;
      lent = h.lent;
      handles = handles_call SideTakes c.args.at.dispatcher c.args.at.end c.args.core.now.board _ h.side h.left c.in-Err.error h.event.event;
    }
