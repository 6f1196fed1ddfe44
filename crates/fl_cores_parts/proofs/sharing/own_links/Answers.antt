use Rattle.fl_cores_parts.specs.Dealing.{IsLinkSide}
use Rattle.fl_cores_parts.proofs.Owning.{none_below, one_more}
use Rattle.fl_cores_parts.proofs.sharing.own_links.Goals as goal

pub loop-number-init : goal.loop-number-init
loop-number-init c = none_below (IsLinkSide c.args.core.now.link_sides) c.args.k c.args.owners.now.items

pub loop-number-preserved : goal.loop-number-preserved
loop-number-preserved c =
    one_more (IsLinkSide c.args.core.now.link_sides) c.loop-number.number c.args.k c.args.owners.now.items c.loop-number.owners.items c.own_link.new.owners.items
    c.loop-number.invariant c.own_link.ensures.owns
