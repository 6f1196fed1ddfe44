use Rattle.fl_world_events.proofs.taking.deregister_in.Goals as goal

pub returns : goal.returns
returns c = record { deregisters = record { whole = c.law_whole.ensures.whole; still = c.law_whole-2.ensures.whole; event = (c.deregister-outcome.result, c.deregister-outcome.ensures.deregisters, c.answer_register.ensures.registered) } }
