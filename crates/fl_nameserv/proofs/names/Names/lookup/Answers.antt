use Rattle.fl_nameserv.proofs.Numbers.{found_name, missing_name}
use Rattle.fl_nameserv.proofs.names.Names.lookup.Goals as goal

pub returns-in_default-clause-unknown : goal.returns-in_default-clause-unknown
returns-in_default-clause-unknown c =
    missing_name c.args.name.now c.self.inside.services.entries c.args.self.now c.self.view_is c.in_default.ensures.index

pub returns-clause-found : goal.returns-clause-found
returns-clause-found c =
    found_name c.args.name.now c.self.inside.services.entries c.args.self.now c.in-Some.place (c.in-Some.name.now, c.in-Some.service.now) _ c.self.view_is c.in-Some.ensures.index c.in-Some.ensures.entry c.at.ensures.at
