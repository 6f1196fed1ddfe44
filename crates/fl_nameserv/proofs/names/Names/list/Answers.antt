use Rattle.fl_nameserv.proofs.Numbers.{table}
use Rattle.fl_nameserv.proofs.names.Names.list.Goals as goal

pub returns-clause-table : goal.returns-clause-table
returns-clause-table c = table _ _ c.self.view_is c.iter.ensures.unique
