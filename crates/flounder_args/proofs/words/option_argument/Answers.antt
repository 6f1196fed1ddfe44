use Rattle.std.proofs.Common.{◌∙◌, ap}
use Rattle.clap.specs.Words.{rule_of}
use Rattle.flounder_args.proofs.Making.{is_global, named}
use Rattle.flounder_args.proofs.words.option_argument.Goals as goal

pub returns : goal.returns
returns c = record {
  rule = ap rule_of c.help.ensures ∙ ap rule_of c.long.ensures ∙ ap (named c.args.long.now) c.new.ensures.rule;
  local = ap is_global c.help.ensures ∙ ap is_global c.long.ensures ∙ c.new.ensures.optional.1;
}
