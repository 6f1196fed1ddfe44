use Rattle.fl_cores_laws.proofs.AskedRoutes.{requests_alone}
use Rattle.fl_cores_laws.proofs.law_honesty.law_requests_alone.Goals as goal

pub returns : goal.returns
returns c = record { alone = requests_alone c.law_rings_conserve.ensures.conserve c.law_circuits_join.ensures.prefix c.law_cores_ask.ensures.ask }
