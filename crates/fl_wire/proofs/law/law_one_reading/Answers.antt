use Rattle.fl_wire.proofs.Readings.{one_reading}
use Rattle.fl_wire.proofs.law.law_one_reading.Goals as goal

pub returns : goal.returns
returns c = record { reading = one_reading }
