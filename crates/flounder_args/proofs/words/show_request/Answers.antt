use Rattle.std.proofs.Common.{◌∙◌, ap₂, codes, Bool, Option}
use Rattle.std.specs.Prelude.{option_map}
use Rattle.clap.specs.Words.{Text, found_of}
use Rattle.clap.proofs.WalkLemmas.{first_value-rows}
use Rattle.flounder_args.specs.Words.{to_show}
use Rattle.flounder_args.proofs.words.show_request.Goals as goal

pub returns-in-Some : goal.returns-in-Some
returns-in-Some c = record {
  asked = ap₂ (λ (names : Bool) (o : Option Text). option_map (λ file. to_show file names) o) c.is_told-names.ensures.told (c.in-Some.ensures ∙ first_value-rows (found_of c.args.found.now) (codes "FILE"));
}

pub returns-in-None : goal.returns-in-None
returns-in-None c = record {
  asked = ap₂ (λ (names : Bool) (o : Option Text). option_map (λ file. to_show file names) o) c.is_told-names.ensures.told (c.in-None.ensures ∙ first_value-rows (found_of c.args.found.now) (codes "FILE"));
}
