use Rattle.std.proofs.Common.{codes}
use Rattle.flounder_args.specs.Words.{exec_with_explain, flag}
use Rattle.flounder_args.proofs.words.exec_command.Goals as goal

pub returns : goal.returns
returns c = record { is = c.with_argument.ensures.is exec_with_explain (flag (codes "strict")) c.exec_with_explain.ensures.is c.flag.ensures.rule c.flag.ensures.local }
