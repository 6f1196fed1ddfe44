use Rattle.std.proofs.Common.{ℕ, Some, ap, ◌∙◌}
use Rattle.std.specs.Prelude.{slice_set}
use Rattle.std.proofs.lemmas.List.{map-set}
use Rattle.fl_endpoint.specs.Rules.{rule_of, rules_of}
use Rattle.fl_endpoint.proofs.rules.ReplyRules.set.Goals as goal

pub returns : goal.returns
returns c = record {
  set = map-set rule_of c.args.self.now.replies.items c.from.result (Some c.args.reply)
      ∙ ap (λ (n : ℕ). slice_set (rules_of c.args.self.now.replies.items) n (Some c.args.reply.0)) c.from.ensures;
}
