use Rattle.flounder_commands.proofs.Scanning.{last_before, last_of_all}
use Rattle.flounder_commands.proofs.refusals.last_feed.Goals as goal

pub returns-in-Some : goal.returns-in-Some
returns-in-Some c = record { last = last_before c.args.bytes.now c.in-Some.at c.memrchr.result c.in-Some.ensures.0 c.memrchr.ensures }

pub returns-in-None : goal.returns-in-None
returns-in-None c = record { last = last_of_all c.args.bytes.now c.memrchr-in-None.result c.in-None.ensures c.memrchr-in-None.ensures }
