use Rattle.std.proofs.Common.{refl, sym}
use Rattle.fl_c_operations.proofs.transmitting.refused_transmitting.Goals as goal

pub returns-then-is_failed : goal.returns-then-is_failed
returns-then-is_failed c = record { refuses = λ f call fits. (fits, (c.requires.bound, sym c.if-is_failed.ensures.failed), refl); not_memory = λ e. absurd (cc) }

pub returns : goal.returns
returns c = record { refuses = λ f call fits. (fits, (c.requires.bound, sym c.if-is_failed.ensures.failed), (λ e. absurd (cc)), refl); not_memory = λ e. absurd (cc) }
