use Rattle.std.proofs.Common.{◌∙◌, ap, codes}
use Rattle.std.specs.Prelude.{option_and_then}
use Rattle.std.specs.Str.Parse.{ParsesUnsigned, ExplainsUnsignedError, HasUnsignedDigitsIfOk}
use Rattle.clap.specs.Words.{found_of, one_text}
use Rattle.clap.proofs.WalkLemmas.{one_text-rows}
use Rattle.flounder_args.specs.Words.{number_in}
use Rattle.flounder_args.proofs.Asking.{turns_read}
use Rattle.flounder_args.proofs.words.turns_of.Goals as goal

pub returns : goal.returns
returns c = record {
  turns = turns_read (λ bs r. ParsesUnsigned 64 10 bs r × ExplainsUnsignedError 10 bs r × HasUnsignedDigitsIfOk bs r) (λ t x h. h.0)
      (one_text (found_of c.args.found.now) (codes "N")) c.get_one.result c.get_one.ensures.none c.get_one.ensures.value
      ∙ ap (option_and_then number_in) (one_text-rows (found_of c.args.found.now) (codes "N"));
}
