use Rattle.fl_cores_file_laws.proofs.Lines.{the_machines}
use Rattle.fl_cores_file_laws.proofs.Texts.{files_pass}
use Rattle.fl_cores_file_laws.proofs.law_set_ups_are_the_machines.Goals as goal

pub returns : goal.returns
returns c = record { machines = the_machines; files = files_pass }
