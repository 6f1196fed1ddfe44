use Rattle.std.proofs.Common.{◌∙◌, ap}
use Rattle.fl_hop.specs.Table.{with_link}
use Rattle.fl_monitor.specs.Monitors.{TheMonitor}
use Rattle.fl_monitor.proofs.monitor.Monitor.add_link.Goals as goal

pub returns-clause-circuits : goal.returns-clause-circuits
returns-clause-circuits c =
    c.in_ok-link.ensures.added ∙ ap (λ (m : TheMonitor). with_link m.circuits c.args.neighbour) c.self.view_is
