use Rattle.fl_world_refines.proofs.Names.{names_agree}
use Rattle.fl_world_refines.proofs.law_cores.law_names_are_shown.Goals as goal

pub returns : goal.returns
returns c = record { agree = names_agree }
