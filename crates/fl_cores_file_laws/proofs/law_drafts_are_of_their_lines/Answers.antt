use Rattle.fl_cores_file_laws.proofs.OfLines.{of_lines}
use Rattle.fl_cores_file_laws.proofs.law_drafts_are_of_their_lines.Goals as goal

pub returns : goal.returns
returns c = record { drafts = of_lines }
