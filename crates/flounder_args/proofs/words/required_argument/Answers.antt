use Rattle.std.proofs.Common.{◌∙◌, ap}
use Rattle.clap.specs.Words.{rule_of}
use Rattle.flounder_args.proofs.Making.{is_global, wanted}
use Rattle.flounder_args.proofs.words.required_argument.Goals as goal

pub returns : goal.returns
returns c = record {
  rule = ap rule_of c.help.ensures ∙ ap rule_of c.required.ensures ∙ ap wanted c.new.ensures.rule;
  local = ap is_global c.help.ensures ∙ ap is_global c.required.ensures ∙ c.new.ensures.optional.1;
}
