use Rattle.fl_wire.proofs.Readings.{begins_with}
use Rattle.fl_wire.proofs.law.law_none_begins_with_another.Goals as goal

pub returns : goal.returns
returns c = record { prefix = begins_with }
