use Rattle.fl_world_refines.proofs.Registering.{registers_agree}
use Rattle.fl_world_refines.proofs.law_of_ends.law_registers_agree.Goals as goal

pub returns : goal.returns
returns c = record { agree = registers_agree }
