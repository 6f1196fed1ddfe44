use Rattle.fl_model_laws.proofs.PlacesStep.{links_in_runs}
use Rattle.fl_model_laws.proofs.law_links_are_paired.Goals as goal

pub returns : goal.returns
returns c = record { paired = links_in_runs }
