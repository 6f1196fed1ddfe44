use Rattle.fl_script_exec.proofs.Existing as lemmas
use Rattle.fl_script_exec.proofs.law.law_names_are_there.Goals as goal

pub returns : goal.returns
returns c = record { there = lemmas.names_are_there }
