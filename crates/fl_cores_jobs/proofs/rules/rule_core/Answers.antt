use Rattle.std.proofs.Common.{◌∙◌, sym, ap, Some}
use Rattle.fl_cores_jobs.proofs.Spoken.{end_refuses, end_takes}
use Rattle.fl_cores_jobs.proofs.rules.rule_core.Goals as goal

pub returns-in-Err-clause-refused : goal.returns-in-Err-clause-refused
returns-in-Err-clause-refused c =
    end_refuses c.args.core.now c.reply_rule.new.self c.args.end c.in-Some.place c.args.message.0 c.args.answer.0 c.in-Err.fault (sym c.in-Some.ensures.place)
    c.in-Err.ensures.sets
    ∙ ap Some (sym c.number.ensures.number)

pub returns-in-Ok-clause-passed : goal.returns-in-Ok-clause-passed
returns-in-Ok-clause-passed c =
    end_takes c.args.core.now c.reply_rule.new.self c.args.end c.in-Some.place c.args.message.0 c.args.answer.0 (sym c.in-Some.ensures.place) c.in-Ok.ensures.sets
