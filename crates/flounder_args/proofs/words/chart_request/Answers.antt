use Rattle.std.proofs.Common.{◌∙◌, ap₂, codes, Option}
use Rattle.std.specs.Prelude.{option_map}
use Rattle.clap.specs.Words.{Text, found_of}
use Rattle.clap.proofs.WalkLemmas.{first_value-rows}
use Rattle.flounder_args.specs.Words.{to_chart}
use Rattle.flounder_args.proofs.words.chart_request.Goals as goal

pub returns-in-Some : goal.returns-in-Some
returns-in-Some c = record {
  asked = ap₂ (λ (lines o : Option Text). option_map (λ file. to_chart file lines) o) c.lines_of-lines.ensures.lines (c.in-Some.ensures ∙ first_value-rows (found_of c.args.found.now) (codes "FILE"));
}

pub returns-in-None : goal.returns-in-None
returns-in-None c = record {
  asked = ap₂ (λ (lines o : Option Text). option_map (λ file. to_chart file lines) o) c.lines_of-lines.ensures.lines (c.in-None.ensures ∙ first_value-rows (found_of c.args.found.now) (codes "FILE"));
}
