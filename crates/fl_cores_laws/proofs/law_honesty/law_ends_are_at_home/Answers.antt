use Rattle.fl_cores_laws.proofs.AskedEnds.{ends_home}
use Rattle.fl_cores_laws.proofs.law_honesty.law_ends_are_at_home.Goals as goal

pub returns : goal.returns
returns c = record { home = ends_home c.law_ends_are_requested.ensures.servers c.law_ends_are_requested.ensures.clients }
