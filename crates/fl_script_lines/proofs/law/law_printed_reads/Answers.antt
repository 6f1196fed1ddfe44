use Rattle.fl_script_lines.proofs.PrintLemmas.{printed_is_read}
use Rattle.fl_script_lines.proofs.law.law_printed_reads.Goals as goal

pub returns : goal.returns
returns c = record { reads = printed_is_read }
