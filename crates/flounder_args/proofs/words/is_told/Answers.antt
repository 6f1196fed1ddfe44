use Rattle.std.proofs.Common.{◌∙◌, ap}
use Rattle.clap.specs.Words.{found_of}
use Rattle.clap.proofs.WalkLemmas.{first_value-rows}
use Rattle.flounder_args.specs.Words.{is_true}
use Rattle.flounder_args.proofs.words.is_told.Goals as goal

pub returns-in-Some : goal.returns-in-Some
returns-in-Some c = record { told = c.eq.ensures ∙ ap is_true (c.in-Some.ensures ∙ first_value-rows (found_of c.args.found.now) c.args.name.now) }

pub returns-in-None : goal.returns-in-None
returns-in-None c = record { told = ap is_true (c.in-None.ensures ∙ first_value-rows (found_of c.args.found.now) c.args.name.now) }
