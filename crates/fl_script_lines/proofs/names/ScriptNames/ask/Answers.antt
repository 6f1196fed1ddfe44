use Rattle.fl_script_lines.proofs.names.ScriptNames.ask.Goals as goal

pub returns-in-Call-clause-asks : goal.returns-in-Call-clause-asks
returns-in-Call-clause-asks c = rw c.in-Call.is c.ask_text.ensures.asks
