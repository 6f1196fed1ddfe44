use Rattle.std.proofs.Common.{◌∙◌, sym, ap, subst, length}
use Rattle.fl_hop.specs.Table.{TheCircuits}
use Rattle.fl_monitor.specs.Fates.{Known}
use Rattle.fl_monitor.specs.Hearing.{ComesTo}
use Rattle.fl_monitor.specs.Monitors.{TheMonitor}
use Rattle.fl_monitor.proofs.Tables.{table_length}
use Rattle.fl_monitor.proofs.Outcomes.{not_said}
use Rattle.fl_monitor.proofs.monitor.Monitor.on_message.Goals as goal

pub invariant_of-self-in-Some : goal.invariant_of-self-in-Some
invariant_of-self-in-Some c =
    let links = ap (λ (t : TheCircuits). length t.links) c.in-Ok.ensures.changed ∙ table_length c.self.inside.circuits c.args.link c.args.message.now c.in_ok-heard.heard in
    c.put.ensures.count ∙ c.self.invariant ∙ sym links

pub unreachable-requires : goal.unreachable-requires
unreachable-requires c =
    let known : Known = record { names = c.args.names.now; here = c.args.here } in
    let comes = subst (λ (m : TheMonitor). ComesTo known m.circuits c.args.link c.args.message.now c.in_ok-heard.heard) (sym c.self.view_is) c.in_ok-heard.ensures.may.0 in
    not_said _ (sym c.says.ensures.says ∙ c.in-None.is) (c.in_default-change.ensures.memory known comes)
