use Rattle.flounder_args.specs.Words.{chart_with_file, lines_option}
use Rattle.flounder_args.proofs.words.chart_command.Goals as goal

pub returns : goal.returns
returns c = record { is = c.with_argument.ensures.is chart_with_file lines_option c.with_file.ensures.is c.option_argument.ensures.rule c.option_argument.ensures.local }
