use Rattle.fl_cores_laws.proofs.AskedRoutes.{servers_requested, clients_requested}
use Rattle.fl_cores_laws.proofs.law_honesty.law_ends_are_requested.Goals as goal

pub returns : goal.returns
returns c = record { servers = servers_requested c.law_requests_alone.ensures.alone; clients = clients_requested c.law_cores_ask.ensures.ask }
