use Rattle.std.proofs.Common.{◌∙◌, ap}
use Rattle.fl_monitor.specs.Monitors.{TheMonitor}
use Rattle.fl_monitor.proofs.Retaking.{monitor_back, monitor_kept}
use Rattle.fl_monitor.proofs.monitor.Monitor.take_back_link.Goals as goal

pub take_back_link-requires : goal.take_back_link-requires
take_back_link-requires c = record {
  before = c.requires.before.circuits;
  neighbour = c.requires.neighbour;
  table = ap (λ (m : TheMonitor). m.circuits) (c.self.view_is ∙ c.requires.monitor);
}

pub invariant_of-self : goal.invariant_of-self
invariant_of-self c =
    let grown = c.self.view_is ∙ c.requires.monitor in
    monitor_kept c.requires.before _ c.requires.neighbour grown c.take_back_link.new.self (c.take_back_link.ensures.before c.requires.before.circuits c.requires.neighbour (ap (λ (m : TheMonitor). m.circuits) grown))
    c.pop.new.self.items _ c.self.inside.outboxes.ok.0 c.pop.ensures.rest c.self.invariant

pub returns : goal.returns
returns c = record {
  before = λ m to is.
      let grown = c.self.view_is ∙ is in
      monitor_back m _ to grown c.take_back_link.new.self (c.take_back_link.ensures.before m.circuits to (ap (λ (x : TheMonitor). x.circuits) grown))
      c.pop.new.self.items _ c.self.inside.outboxes.ok.0 c.pop.ensures.rest;
}
