use Rattle.std.proofs.Common.{◌∙◌, ap, codes}
use Rattle.std.specs.Prelude.{option_map}
use Rattle.clap.specs.Words.{found_of}
use Rattle.clap.proofs.WalkLemmas.{first_value-rows}
use Rattle.flounder_args.specs.Words.{to_head}
use Rattle.flounder_args.proofs.words.header_request.Goals as goal

pub returns-in-Some : goal.returns-in-Some
returns-in-Some c = record { asked = ap (option_map to_head) (c.in-Some.ensures ∙ first_value-rows (found_of c.args.found.now) (codes "FILE")) }

pub returns-in-None : goal.returns-in-None
returns-in-None c = record { asked = ap (option_map to_head) (c.in-None.ensures ∙ first_value-rows (found_of c.args.found.now) (codes "FILE")) }
