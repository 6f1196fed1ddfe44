use Rattle.fl_value.proofs.Prints.{call_reads}
use Rattle.fl_value.proofs.law.law_printed_reads.Goals as goal

pub returns : goal.returns
returns c = record { reading = call_reads }
