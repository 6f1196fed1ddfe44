use Rattle.fl_cores_parts.specs.Dealing.{TakesSide}
use Rattle.fl_cores_parts.proofs.Owning.{none_below, one_more}
use Rattle.fl_cores_parts.proofs.sharing.own_end_sides.Goals as goal

pub loop-e-init : goal.loop-e-init
loop-e-init c = none_below (TakesSide c.args.core.now) c.args.k c.args.owners.now.items

pub loop-e-preserved : goal.loop-e-preserved
loop-e-preserved c =
    one_more (TakesSide c.args.core.now) c.loop-e.e c.args.k c.args.owners.now.items c.loop-e.owners.items c.own_side.new.owners.items c.loop-e.invariant
    c.own_side.ensures.owns
