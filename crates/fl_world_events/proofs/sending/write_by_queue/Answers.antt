use Rattle.fl_world_events.proofs.sending.write_by_queue.Goals as goal

pub returns : goal.returns
returns c = record { writes = record { whole = c.law_whole.ensures.whole; still = c.law_whole-2.ensures.whole; event = (c.write-outcome.result, c.write-outcome.ensures.writes, c.wrote.ensures.wrote) } }
