use Rattle.flounder_args.specs.Words.{cores_with_file, turns_option}
use Rattle.flounder_args.proofs.words.cores_with_turns.Goals as goal

pub returns : goal.returns
returns c = record { is = c.with_argument.ensures.is cores_with_file turns_option c.with_file.ensures.is c.turns_option.ensures.rule c.turns_option.ensures.local }
