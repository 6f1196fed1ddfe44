use Rattle.flounder_args.specs.Words.{with_compile, show_command}
use Rattle.flounder_args.proofs.words.with_show.Goals as goal

pub returns : goal.returns
returns c = record { is = c.with_one_more.ensures.is with_compile show_command c.with_compile.ensures.is c.show_command.ensures.is }
