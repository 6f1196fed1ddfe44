use Rattle.fl_monitor.proofs.Boxes.{some_data, some_bare, first_is}
use Rattle.fl_monitor.proofs.outbox.Outbox.next_out.Goals as goal

pub returns-clause-data : goal.returns-clause-data
returns-clause-data c = first_is _ some_data c.args.self.now c.first.result c.first.ensures.sound c.first.ensures.first

pub returns-clause-bare : goal.returns-clause-bare
returns-clause-bare c = first_is _ some_bare c.args.self.now c.first.result c.first.ensures.sound c.first.ensures.first
