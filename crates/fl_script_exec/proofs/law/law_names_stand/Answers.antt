use Rattle.fl_script_exec.proofs.Naming as lemmas
use Rattle.fl_script_exec.proofs.law.law_names_stand.Goals as goal

pub returns : goal.returns
returns c = record { stand = lemmas.names_stand c.law_runs_are_sound.ensures.sound }
