use Rattle.fl_core.proofs.Kept.{failed_kept, failed_is}
use Rattle.fl_core.proofs.one_core.Core.fails.Goals as goal

pub invariant_of-self : goal.invariant_of-self
invariant_of-self c = failed_kept _ c.args.link.0 c.fail.new.link_sides.items c.self.invariant c.fail.ensures.failed

pub returns-clause-failed : goal.returns-clause-failed
returns-clause-failed c = failed_is c.args.self.now _ c.self.view_is c.args.link.0 c.fail.new.link_sides.items c.fail.ensures.failed
