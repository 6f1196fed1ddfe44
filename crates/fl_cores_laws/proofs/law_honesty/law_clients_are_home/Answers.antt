use Rattle.fl_cores_laws.proofs.WholeHome.{at_home}
use Rattle.fl_cores_laws.proofs.law_honesty.law_clients_are_home.Goals as goal

pub returns : goal.returns
returns c = record { home = at_home }
