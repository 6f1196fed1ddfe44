use Rattle.fl_world_events.proofs.Following.{exchanged, not_exchanged}
use Rattle.fl_world_events.proofs.forwarding.exchange.Goals as goal

pub exchange_rules-requires-clause-interface : goal.exchange_rules-requires-clause-interface
exchange_rules-requires-clause-interface c = c.is_like.ensures.like c.if-is_like.true

pub returns-then-is_like : goal.returns-then-is_like
returns-then-is_like c = record { takes = exchanged c.args.core.now _ c.args.place c.args.kept.now _ (c.is_like.ensures.like c.if-is_like.true) c.exchange_rules.ensures.exchanges }

pub returns-else-is_like : goal.returns-else-is_like
returns-else-is_like c = record { takes = not_exchanged c.args.core.now c.args.place c.args.kept.now (c.is_like.ensures.other c.if-is_like.false) }
