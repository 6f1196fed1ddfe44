use Rattle.fl_wire.proofs.Readings.{reads_once}
use Rattle.fl_wire.proofs.law.law_reads_once.Goals as goal

pub returns : goal.returns
returns c = record { once = reads_once }
