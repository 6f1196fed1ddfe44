use Rattle.fl_world_events.proofs.Queued.{still_on_queue}
use Rattle.fl_world_events.proofs.by_queues.register_both.Goals as goal

pub register-requires-2 : goal.register-requires-2
register-requires-2 c = record { end = still_on_queue _ _ _ _ _ c.register.ensures.lists c.requires.server }

pub returns-clause-lists : goal.returns-clause-lists
returns-clause-lists c = record { between = c.register.new.core; client = c.register.ensures.lists; server = c.register-2.ensures.lists }
