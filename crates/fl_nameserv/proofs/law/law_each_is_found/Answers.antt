use Rattle.fl_nameserv.proofs.Lookups.{found_by_name, found_by_iref}
use Rattle.fl_nameserv.proofs.law.law_each_is_found.Goals as goal

pub returns-clause-by_name : goal.returns-clause-by_name
returns-clause-by_name c = found_by_name c.args.names.now c.list.ensures.table

pub returns-clause-by_iref : goal.returns-clause-by_iref
returns-clause-by_iref c = found_by_iref c.args.names.now c.list.ensures.table
