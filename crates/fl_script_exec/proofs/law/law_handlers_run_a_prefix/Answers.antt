use Rattle.fl_script_exec.proofs.Asking as lemmas
use Rattle.fl_script_exec.proofs.law.law_handlers_run_a_prefix.Goals as goal

pub returns : goal.returns
returns c = record { handled = lemmas.handlers c.law_handled_is_a_prefix.ensures.prefix c.law_all_accepted.ensures.accepted }
