use Rattle.flounder_args.specs.Words.{bare_program, exec_command}
use Rattle.flounder_args.proofs.words.with_exec.Goals as goal

pub returns : goal.returns
returns c = record { is = c.one_more.ensures.is bare_program exec_command c.bare_program.ensures.is c.exec_command.ensures.is }
