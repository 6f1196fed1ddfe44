use Rattle.std.proofs.Common.{◌≡◌, ap, ◌∙◌, length, arith}
use Rattle.fl_hop.specs.Table.{TheCircuits}
use Rattle.fl_monitor.specs.Monitors.{TheMonitor}
use Rattle.fl_cores_parts.proofs.Owning.{owns_sides}
use Rattle.fl_cores_parts.proofs.sharing.own_sides.Goals as goal

pub returns : goal.returns
returns c =
    let core = c.args.core.now in
    let sound = c.law_sound.ensures.sound in
    let links : length c.circuits.result.now.links ≡ length core.monitor.circuits.links =
    ap (λ (t : TheCircuits). length t.links) c.circuits.ensures.circuits ∙ ap (λ (m : TheMonitor). length m.circuits.links) c.monitor.ensures.monitor in
    let few = c.law_never_shared.ensures.sound.few in
    let link_sides = sound.link_sides in
    record {
      owns = owns_sides core sound 15 c.args.k c.args.owners.now.items c.own_links.new.owners.items c.own_end_sides.new.owners.items
          (omega (arith, links, few, link_sides)) c.own_links.ensures.owns c.own_end_sides.ensures.owns;
    }
