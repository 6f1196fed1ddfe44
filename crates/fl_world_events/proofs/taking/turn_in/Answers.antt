use Rattle.fl_link.specs.Queue.{QueueTakes}
use Rattle.fl_world_events.proofs.Unturned.{arrivals_kept}
use Rattle.fl_world_events.proofs.Wanting.{handles_call}
use Rattle.fl_world_events.proofs.taking.turn_in.Goals as goal

pub returns-in-Err-clause-kept : goal.returns-in-Err-clause-kept
returns-in-Err-clause-kept c = arrivals_kept c.args.core.now _ c.args.at.dispatcher c.args.at.end c.in-Err.error c.in-Err.ensures.turns

pub returns-in-Err-clause-wants : goal.returns-in-Err-clause-wants
returns-in-Err-clause-wants c =
    let h = c.in-Err.ensures.turns in
    record {
      place = h.place;
      place_is = h.place_is;
      queue = h.before;
      queue_is = h.before_is;
      handles = handles_call QueueTakes c.args.at.dispatcher c.args.at.end c.args.core.now.board _ h.before h.after c.in-Err.error h.event;
    }
