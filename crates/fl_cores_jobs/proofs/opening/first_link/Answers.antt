use Rattle.fl_cores_jobs.proofs.Routed.{there}
use Rattle.fl_cores_jobs.proofs.opening.first_link.Goals as goal

pub returns-in-Ok-clause-there : goal.returns-in-Ok-clause-there
returns-in-Ok-clause-there c =
    there c.monitor.result.now.circuits c.cores.result.now c.args.server.0 c.args.cores c.in-Ok.link.0 c.in-Ok.ensures.may.1
