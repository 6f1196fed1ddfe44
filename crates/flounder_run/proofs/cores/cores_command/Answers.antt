use Rattle.flounder_run.proofs.cores.cores_command.Goals as goal

pub returns-in-None : goal.returns-in-None
returns-in-None g c = rw c.in-None.is (record { ran = c.cores_file.ensures.ran })

pub returns-in-Some : goal.returns-in-Some
returns-in-Some g c = rw c.in-Some.is (record { ran = c.recorded_file.ensures.ran })
