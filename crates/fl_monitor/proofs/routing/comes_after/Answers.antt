use Rattle.std.proofs.Common.{◌-◌, Some, None}
use Rattle.fl_monitor.proofs.Looked.{found_at, none_at, behind}
use Rattle.fl_monitor.proofs.routing.comes_after.Goals as goal

pub returns-in-Some : goal.returns-in-Some
returns-in-Some c = record { after = behind c.args.path.now c.args.place c.args.neighbour.0 (Some c.in-Some.before.now) c.if-place-eq0.false (found_at c.args.path.now (c.args.place - 1) c.in-Some.before.now c.in-Some.ensures.lookup.0 c.in-Some.ensures.lookup.1) }

pub returns-in-None : goal.returns-in-None
returns-in-None c = record { after = behind c.args.path.now c.args.place c.args.neighbour.0 None c.if-place-eq0.false (none_at c.args.path.now (c.args.place - 1) c.in-None.ensures.lookup.0) }
