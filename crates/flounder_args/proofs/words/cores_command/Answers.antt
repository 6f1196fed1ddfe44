use Rattle.flounder_args.specs.Words.{cores_with_turns, script_option}
use Rattle.flounder_args.proofs.words.cores_command.Goals as goal

pub returns : goal.returns
returns c = record { is = c.with_argument.ensures.is cores_with_turns script_option c.cores_with_turns.ensures.is c.option_argument.ensures.rule c.option_argument.ensures.local }
