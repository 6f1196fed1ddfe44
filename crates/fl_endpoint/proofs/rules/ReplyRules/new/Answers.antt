use Rattle.std.proofs.Common.{◌≡◌, ℕ, zero, suc, List, ◌∷◌, Option, None, refl, sym, ap, subst, ◌∙◌, rules}
use Rattle.std.specs.Prelude.{replicate}
use Rattle.fl_base.specs.declared.identity.MsgNo.{MsgNo}
use Rattle.fl_endpoint.specs.Rules.{rules_of, AreNone}
use Rattle.fl_endpoint.proofs.rules.ReplyRules.new.Goals as goal

none_of : (n : ℕ) → rules_of (replicate n None) ≡ replicate n None
none_of zero = refl
none_of (suc n) = ap (λ (rules : List (Option ℕ)). None ∷ rules) (none_of n)

none_are : (n : ℕ) → AreNone (replicate n None)
none_are zero = refl
none_are (suc n) = ap (λ (rules : List (Option ℕ)). None ∷ rules) (none_are n)

pub returns : goal.returns
returns c = record { none = ap rules_of (c.in_ok-replies.ensures.items_if_clones_equal (λ y h. search rules)) ∙ none_of c.args.messages }

pub invariant_of-result : goal.invariant_of-result
invariant_of-result c = record {
  none = λ unset. subst (λ (items : List (Option MsgNo)). AreNone items) (sym (c.in_ok-replies.ensures.items_if_clones_equal (λ y h. search rules)))
      (none_are c.args.messages);
}
