use Rattle.std.proofs.Common.{◌∙◌, Some, None, codes, refl}
use Rattle.clap.specs.Words.{found_of, rows_of}
use Rattle.clap.proofs.WalkLemmas.{first_value-rows}
use Rattle.flounder_args.proofs.Asking.{to_turns}
use Rattle.flounder_args.proofs.words.cores_request.Goals as goal

pub returns-in-Some : goal.returns-in-Some
returns-in-Some c = record {
  asked = to_turns (rows_of (found_of c.args.found.now)) (Some c.in-Some.file.now) _ (c.in-Some.ensures ∙ first_value-rows (found_of c.args.found.now) (codes "FILE")) c.cores_with_request.ensures.asked;
}

pub returns-in-None : goal.returns-in-None
returns-in-None c = record {
  asked = to_turns (rows_of (found_of c.args.found.now)) None None (c.in-None.ensures ∙ first_value-rows (found_of c.args.found.now) (codes "FILE")) refl;
}
