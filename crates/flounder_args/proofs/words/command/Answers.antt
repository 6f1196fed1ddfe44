use Rattle.flounder_args.specs.Words.{with_chart, header_command}
use Rattle.flounder_args.proofs.words.command.Goals as goal

pub returns : goal.returns
returns c = record { is = c.with_one_more.ensures.is with_chart header_command c.with_chart.ensures.is c.header_command.ensures.is }
