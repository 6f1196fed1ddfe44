use Rattle.fl_script_exec.proofs.ExecLemmas as lemmas
use Rattle.fl_script_exec.proofs.law.law_prefix_of_the_transcript.Goals as goal

pub returns : goal.returns
returns c = record { prefix = lemmas.prefix_of_leavings }
