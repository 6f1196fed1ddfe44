use Rattle.fl_world_events.proofs.taking.register_in.Goals as goal

pub returns : goal.returns
returns c = record { registers = record { whole = c.law_whole.ensures.whole; still = c.law_whole-2.ensures.whole; event = (c.register_arrivals-outcome.result, c.register_arrivals-outcome.ensures.registers, c.answer_register.ensures.registered) } }
