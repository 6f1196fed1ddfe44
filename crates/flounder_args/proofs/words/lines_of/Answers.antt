use Rattle.std.proofs.Common.{◌∙◌, codes}
use Rattle.clap.specs.Words.{found_of}
use Rattle.clap.proofs.WalkLemmas.{first_value-rows}
use Rattle.flounder_args.proofs.words.lines_of.Goals as goal

pub returns : goal.returns
returns c = record { lines = c.get_str.ensures ∙ first_value-rows (found_of c.args.found.now) (codes "A-B") }
