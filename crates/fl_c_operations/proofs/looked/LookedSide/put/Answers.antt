use Rattle.fl_c_operations.proofs.Looking.{seen_still}
use Rattle.fl_c_operations.proofs.looked.LookedSide.put.Goals as goal

pub invariant_of-self : goal.invariant_of-self
invariant_of-self c =
    seen_still c.self.inside.seen c.self.inside.side c.try_put.new.self c.args.frag.now c.try_put.result c.self.invariant c.try_put.ensures.placed c.try_put.ensures.full c.try_put.ensures.spent
