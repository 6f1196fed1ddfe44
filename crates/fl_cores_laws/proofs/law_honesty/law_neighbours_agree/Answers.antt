use Rattle.fl_cores_laws.proofs.Neighbours.{neighbours_agree}
use Rattle.fl_cores_laws.proofs.law_honesty.law_neighbours_agree.Goals as goal

pub returns : goal.returns
returns c = record { agree = neighbours_agree c.law_rings_conserve.ensures.conserve c.law_circuits_join.ensures.prefix c.law_cores_name.ensures.name }
