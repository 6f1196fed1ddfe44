use Rattle.fl_link.specs.Queue.{QueueTakes}
use Rattle.fl_world_events.proofs.GivenBack.{by_queue_left}
use Rattle.fl_world_events.proofs.Wanting.{handles_call}
use Rattle.fl_world_events.proofs.taking.turn_by_queue.Goals as goal

pub returns-in-Ok-clause-turns : goal.returns-in-Ok-clause-turns
returns-in-Ok-clause-turns c =
    by_queue_left c.answer_turn.ensures.same
    (record { whole = c.law_whole.ensures.whole; still = c.law_whole-2.ensures.whole; event = (c.in-Ok.answer, c.law_sound.ensures.sound, c.in-Ok.ensures.turns, c.answer_turn.ensures.turned) })

pub returns-in-Err-clause-kept : goal.returns-in-Err-clause-kept
returns-in-Err-clause-kept c = c.in-Err.ensures.kept

pub returns-in-Err-clause-wants : goal.returns-in-Err-clause-wants
returns-in-Err-clause-wants c =
    handles_call QueueTakes c.args.at.dispatcher c.args.at.end c.args.core.now.board _ c.args.queue.now _ c.in-Err.error c.in-Err.ensures.turns.event
