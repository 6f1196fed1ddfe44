use Rattle.flounder_args.specs.Words.{with_exec, compile_command}
use Rattle.flounder_args.proofs.words.with_compile.Goals as goal

pub returns : goal.returns
returns c = record { is = c.with_one_more.ensures.is with_exec compile_command c.with_exec.ensures.is c.compile_command.ensures.is }
