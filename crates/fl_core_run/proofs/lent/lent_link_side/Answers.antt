use Rattle.std.proofs.Common.{◌∙◌, sym}
use Rattle.fl_core_run.proofs.LinkSides.{link_side_there}
use Rattle.fl_core_run.proofs.lent.lent_link_side.Goals as goal

pub returns-in-Some-clause-link : goal.returns-in-Some-clause-link
returns-in-Some-clause-link g c = link_side_there c.args.run.now.core.link_sides c.args.link.0 c.in-Some.side (sym c.side.ensures.side ∙ c.in-Some.is)
