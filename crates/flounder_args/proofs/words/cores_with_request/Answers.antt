use Rattle.std.proofs.Common.{ap₂, ℕ, Option}
use Rattle.std.specs.Prelude.{option_map}
use Rattle.clap.specs.Words.{Text}
use Rattle.flounder_args.specs.Words.{to_run_cores}
use Rattle.flounder_args.proofs.words.cores_with_request.Goals as goal

pub returns-in-Some : goal.returns-in-Some
returns-in-Some c = record {
  asked = ap₂ (λ (out : Option Text) (n : Option ℕ). option_map (λ turns. to_run_cores c.args.file.now turns out) n) c.script_of-script.ensures.script c.in-Some.ensures.turns;
}

pub returns-in-None : goal.returns-in-None
returns-in-None c = record {
  asked = ap₂ (λ (out : Option Text) (n : Option ℕ). option_map (λ turns. to_run_cores c.args.file.now turns out) n) c.script_of-script.ensures.script c.in-None.ensures.turns;
}
