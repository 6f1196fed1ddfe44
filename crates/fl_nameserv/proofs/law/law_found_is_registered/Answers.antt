use Rattle.fl_nameserv.proofs.Lookups.{named_there, referred_there}
use Rattle.fl_nameserv.proofs.law.law_found_is_registered.Goals as goal

pub returns-clause-by_name : goal.returns-clause-by_name
returns-clause-by_name c = named_there c.args.names.now

pub returns-clause-by_iref : goal.returns-clause-by_iref
returns-clause-by_iref c = referred_there c.args.names.now
