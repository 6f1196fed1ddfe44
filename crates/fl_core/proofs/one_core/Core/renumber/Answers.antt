use Rattle.fl_core.proofs.Numbering.{renumbered_is}
use Rattle.fl_core.proofs.one_core.Core.renumber.Goals as goal

pub invariant_of-self : goal.invariant_of-self
invariant_of-self c = renumbered_is c.args.sides.now c.args.queues.now _ c.move_wired_ends.new.wired_ends.items c.move_link_sides.new.link_sides.items c.self.invariant c.move_wired_ends.ensures.moved c.move_link_sides.ensures.moved
