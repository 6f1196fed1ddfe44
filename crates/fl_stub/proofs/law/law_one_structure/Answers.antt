use Rattle.fl_stub.proofs.Structures.{one_structure}
use Rattle.fl_stub.proofs.law.law_one_structure.Goals as goal

pub returns : goal.returns
returns c = record { structure = one_structure }
