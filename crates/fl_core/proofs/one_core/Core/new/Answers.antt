use Rattle.std.proofs.Common.{rules, sym, subst}
use Rattle.fl_core.specs.Sound.{IsCore}
use Rattle.fl_core.proofs.Fresh.{is_fresh, fresh_sound}
use Rattle.fl_core.proofs.one_core.Core.new.Goals as goal

pub invariant_of-result : goal.invariant_of-result
invariant_of-result c =
    let fresh = is_fresh c.args.core.0 c.new-2.result c.in_ok-monitor.monitor c.new-3.result.items c.in_ok-places.places.items c.new-4.result.items c.new-5.result.items c.new-2.ensures.empty c.in_ok-monitor.ensures.empty c.new-3.ensures.items (c.in_ok-places.ensures.items_if_clones_equal (λ y h. search rules)) c.new-4.ensures.items c.new-5.ensures.items in
    subst IsCore (sym fresh) (fresh_sound c.args.core.0)

pub returns : goal.returns
returns c = record { empty = is_fresh c.args.core.0 c.new-2.result c.in_ok-monitor.monitor c.new-3.result.items c.in_ok-places.places.items c.new-4.result.items c.new-5.result.items c.new-2.ensures.empty c.in_ok-monitor.ensures.empty c.new-3.ensures.items (c.in_ok-places.ensures.items_if_clones_equal (λ y h. search rules)) c.new-4.ensures.items c.new-5.ensures.items }
