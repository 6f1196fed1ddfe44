use Rattle.std.proofs.Common.{codes}
use Rattle.flounder_args.specs.Words.{compile_with_file, required}
use Rattle.flounder_args.proofs.words.compile_command.Goals as goal

pub returns : goal.returns
returns c = record { is = c.with_argument.ensures.is compile_with_file (required (codes "OUT")) c.with_file.ensures.is c.required_argument.ensures.rule c.required_argument.ensures.local }
