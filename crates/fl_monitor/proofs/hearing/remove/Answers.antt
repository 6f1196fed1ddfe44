use Rattle.std.proofs.Common.{sym, ◌∙◌}
use Rattle.fl_monitor.proofs.Outcomes.{none_waits}
use Rattle.fl_monitor.proofs.hearing.remove.Goals as goal

pub returns-in_default-clause-misrouted : goal.returns-in_default-clause-misrouted
returns-in_default-clause-misrouted c = none_waits c.args.circuits.now c.args.link.0 c.args.circuit.0 (sym c.remove.ensures.hop ∙ c.in_default.is)
