use Rattle.flounder_commands.proofs.commands.write_image.Goals as goal

pub returns-in-Err-clause-failed : goal.returns-in-Err-clause-failed
returns-in-Err-clause-failed g c = (_, c.in-Err.ensures.done, c.fault_of_writing.ensures.failed)
