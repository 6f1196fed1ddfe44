use Rattle.fl_lists.proofs.Sized.{apart_over, over_held}
use Rattle.fl_lists.proofs.lists.Lists.size.Goals as goal

pub returns-clause-apart : goal.returns-clause-apart
returns-clause-apart c = apart_over c.args.self.now (over_held _ _ _ _ _ c.self.invariant c.self.view_is)
