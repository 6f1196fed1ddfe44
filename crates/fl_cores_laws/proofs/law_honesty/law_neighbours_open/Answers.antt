use Rattle.fl_cores_laws.proofs.Opened.{neighbours_open}
use Rattle.fl_cores_laws.proofs.law_honesty.law_neighbours_open.Goals as goal

pub returns : goal.returns
returns c = record { leads = neighbours_open c.law_rings_conserve.ensures.conserve c.law_circuits_join.ensures.prefix c.law_cores_answer.ensures.answer }
