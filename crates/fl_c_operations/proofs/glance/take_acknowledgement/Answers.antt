use Rattle.std.proofs.Common.{subst}
use Rattle.fl_link.specs.Looks.{Look}
use Rattle.fl_ring.specs.SharedSides.{SharedTakes}
use Rattle.fl_c_operations.proofs.glance.take_acknowledgement.Goals as goal

pub returns : goal.returns
returns c = record {
  takes = subst (λ (l : Look). SharedTakes c.args.side.now.side l c.take_looked.new.self.side) (c.take_looked.ensures.acknowledgement c.requires.acknowledgement) c.take_looked.ensures.look;
}
