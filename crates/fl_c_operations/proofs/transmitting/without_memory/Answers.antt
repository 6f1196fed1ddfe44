use Rattle.std.proofs.Common.{refl}
use Rattle.fl_c_operations.proofs.transmitting.without_memory.Goals as goal

pub returns-in-Some : goal.returns-in-Some
returns-in-Some c = record { refuses = c.in-Some.ensures.some }

pub returns-in-None : goal.returns-in-None
returns-in-None c = record { refuses = λ call fits. (fits, c.in-None.ensures.none.0, c.in-None.ensures.none.1, refl) }
