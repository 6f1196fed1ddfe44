use Rattle.std.proofs.Common.{◌≡◌, drop}
use Rattle.fl_endpoint.specs.Rules.{rules_of}
use Rattle.fl_endpoint.specs.View.{has_rules}
use Rattle.fl_endpoint.proofs.rules.ReplyRules.any.Given as goal

-- there is a rule where one is among those that are left
abbrev pub invariant-loop-rule : goal.invariant-loop-rule
invariant-loop-rule l = has_rules (rules_of l.self.replies.items) ≡ has_rules (rules_of (drop l.rule-index l.self.replies.items))
