use Rattle.flounder_args.specs.Words.{with_cores, chart_command}
use Rattle.flounder_args.proofs.words.with_chart.Goals as goal

pub returns : goal.returns
returns c = record { is = c.with_one_more.ensures.is with_cores chart_command c.with_cores.ensures.is c.chart_command.ensures.is }
