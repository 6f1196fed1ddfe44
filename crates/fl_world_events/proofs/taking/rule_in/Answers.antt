use Rattle.fl_world_events.proofs.taking.rule_in.Goals as goal

pub returns : goal.returns
returns c = record { rules = record { whole = c.law_whole.ensures.whole; still = c.law_whole-2.ensures.whole; event = (c.reply_rule-outcome.result, c.reply_rule-outcome.ensures.sets, c.answer_rule.ensures.ruled) } }
