use Rattle.fl_cores_laws.proofs.Sitting.{ends_sit}
use Rattle.fl_cores_laws.proofs.law_honesty.law_ends_sit.Goals as goal

pub returns : goal.returns
returns c = record { sit = ends_sit c.law_ends_are_requested.ensures.servers c.law_ends_are_requested.ensures.clients c.law_ends_are_at_home.ensures.home }
