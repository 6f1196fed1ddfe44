use Rattle.fl_script_exec.proofs.Doing as lemmas
use Rattle.fl_script_exec.proofs.law.law_one_transcript.Goals as goal

pub returns : goal.returns
returns c = record { one = lemmas.one_transcript }
