use Rattle.std.proofs.Common.{◌≡◌, sym, ap, ◌∙◌, length}
use Rattle.fl_hop.specs.Table.{TheCircuits}
use Rattle.fl_monitor.specs.Monitors.{TheMonitor}
use Rattle.fl_cores_parts.proofs.Lists.{links_more, links_done}
use Rattle.fl_cores_parts.proofs.wiring.links_of.Goals as goal

pub loop-number-preserved : goal.loop-number-preserved
loop-number-preserved c = c.in_ok-push.ensures.items ∙ links_more c.loop-number.number c.loop-number.links.items c.loop-number.invariant

pub returns : goal.returns
returns c =
    let core = c.args.core.now in
    let link_sides = c.law_sound.ensures.sound.link_sides in
    let table : length c.circuits.result.now.links ≡ length core.monitor.circuits.links =
    ap (λ (t : TheCircuits). length t.links) c.circuits.ensures.circuits ∙ ap (λ (m : TheMonitor). length m.circuits.links) c.monitor.ensures.monitor in
    record {
      links = links_done (length core.link_sides) c.loop-number.number c.link_count-number-end.result c.loop-number.links.items (c.link_count-number-end.ensures.count ∙ table ∙ sym link_sides)
          c.loop-number.auto.number-end c.loop-number-test.false c.loop-number.invariant;
    }
