use Rattle.fl_world_events.proofs.Ends.{ruled_kept}
use Rattle.fl_world_events.proofs.taking.rule_kept.Goals as goal

pub returns-in-Some : goal.returns-in-Some
returns-in-Some c = record { rules = ruled_kept _ _ c.args.binding.now _ c.reply_rule.new.self c.in-Some.is c.reply_rule.result c.reply_rule.ensures.sets _ c.answer_rule.ensures.ruled }
