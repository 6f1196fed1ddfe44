-- Reply rules as an end stores them.
use Rattle.std.specs.Prelude.{◌≡◌, ℕ, List, map, length, replicate, Option, None}
use Rattle.std.specs.Option.{option_map}
use Rattle.fl_base.specs.declared.identity.MsgNo.{MsgNo}

-- one rule, and those of all messages: each by the number of the reply's message
abbrev pub rule_of : Option MsgNo → Option ℕ
rule_of rule = option_map (λ (m : MsgNo). m.0) rule

abbrev pub rules_of : List (Option MsgNo) → List (Option ℕ)
rules_of rules = map rule_of rules

-- no message has a rule
abbrev pub AreNone : List (Option MsgNo) → Type 0
AreNone rules = rules_of rules ≡ replicate (length rules) None
