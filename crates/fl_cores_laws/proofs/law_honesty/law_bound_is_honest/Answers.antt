use Rattle.fl_cores_laws.proofs.WholeEnds.{bound_honest}
use Rattle.fl_cores_laws.proofs.law_honesty.law_bound_is_honest.Goals as goal

pub returns : goal.returns
returns c = record { honest = bound_honest c.law_bound_ends_meet.ensures.meet c.law_clients_are_home.ensures.home c.law_circuits_are_honest.ensures.honest }
