use Rattle.fl_cores_joined.proofs.Exchanging.{events_exchange, apart_may_change, steps_exchange}
use Rattle.fl_cores_joined.proofs.law.law_neighbours_exchange.Goals as goal

pub returns : goal.returns
returns c = record { events = events_exchange; apart = apart_may_change; steps = steps_exchange }
