use Rattle.fl_script_lines.proofs.PrintLemmas.{spelled_is_read}
use Rattle.fl_script_lines.proofs.law.law_spelled_reads.Goals as goal

pub returns : goal.returns
returns c = record { reads = spelled_is_read }
