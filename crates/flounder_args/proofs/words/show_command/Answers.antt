use Rattle.std.proofs.Common.{codes}
use Rattle.flounder_args.specs.Words.{show_with_file, flag}
use Rattle.flounder_args.proofs.words.show_command.Goals as goal

pub returns : goal.returns
returns c = record { is = c.with_argument.ensures.is show_with_file (flag (codes "names")) c.with_file.ensures.is c.flag.ensures.rule c.flag.ensures.local }
