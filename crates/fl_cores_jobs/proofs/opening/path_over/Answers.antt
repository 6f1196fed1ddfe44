use Rattle.std.proofs.Common.{◌∙◌, ap}
use Rattle.fl_cores_jobs.specs.Requested.{cores_on}
use Rattle.fl_cores_jobs.proofs.AskedFor.{on_ids}
use Rattle.fl_cores_jobs.proofs.opening.path_over.Goals as goal

pub returns-clause-route : goal.returns-clause-route
returns-clause-route c = ap cores_on c.path_of.ensures.path ∙ on_ids c.args.cores.now
