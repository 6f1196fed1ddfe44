use Rattle.fl_model.specs.declared.event.Event.TheVariants as rust
use Rattle.fl_script_lines.specs.Told.{names_of}
use Rattle.fl_script_lines.specs.Views.{end_name_of}
use Rattle.fl_script_lines.proofs.LineLemmas.{asked_call, unasked_call}
use Rattle.fl_script_lines.proofs.names.ScriptNames.ask_text.Goals as goal

pub returns-in-Ok-clause-asks : goal.returns-in-Ok-clause-asks
returns-in-Ok-clause-asks c =
    asked_call (names_of c.args.self.now) (end_name_of c.args.end) c.args.text.now (rust.Call c.in-Ok.end c.in-Ok.call) c.ask_event.result
    (rw c.in-Ok.is at c.call_at.ensures.tells) c.ask_event.ensures.tells

pub returns-in-Err-clause-asks : goal.returns-in-Err-clause-asks
returns-in-Err-clause-asks c =
    unasked_call (names_of c.args.self.now) (end_name_of c.args.end) c.args.text.now c.in-Err.fault (rw c.in-Err.is at c.call_at.ensures.tells)
