use Rattle.flounder_args.specs.Words.{with_show, cores_command}
use Rattle.flounder_args.proofs.words.with_cores.Goals as goal

pub returns : goal.returns
returns c = record { is = c.with_one_more.ensures.is with_show cores_command c.with_show.ensures.is c.cores_command.ensures.is }
