use Rattle.fl_world_events.proofs.RingEnds.{takes_from_ring}
use Rattle.fl_world_events.proofs.by_ring.add_end.Goals as goal

pub returns-in-Ok-clause-ring : goal.returns-in-Ok-clause-ring
returns-in-Ok-clause-ring c = takes_from_ring c.args.joiner c.args.core.now c.add_end.new.self c.in-Ok.place c.law_whole.ensures.whole.core c.in-Ok.ensures.adds
