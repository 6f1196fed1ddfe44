use Rattle.std.proofs.Common.{◌≡◌, sym, ap, ◌∙◌, subst}
use Rattle.fl_endpoint.specs.declared.rules.ReplyRules.{ReplyRules}
use Rattle.fl_endpoint.specs.declared.end.End.TheInside.{Inside}
use Rattle.fl_endpoint.specs.View.{TheEnd, interface_in, with_rules_of}
use Rattle.fl_endpoint.specs.Inside.{end_of, IsEnd}
use Rattle.fl_endpoint.proofs.Insides.{with_rules, exchanged_is_end}
use Rattle.fl_endpoint.proofs.end.End.exchange_rules.Goals as goal

-- the two are of one interface, by their fields
same : (e f : Inside) (s t : TheEnd) → end_of e ≡ s → end_of f ≡ t → interface_in s ≡ interface_in t → interface_in (end_of e) ≡ interface_in (end_of f)
same e f s t e_is f_is h = ap (λ (x : TheEnd). interface_in x) e_is ∙ h ∙ sym (ap (λ (x : TheEnd). interface_in x) f_is)

kept : (e f : Inside) (after : ReplyRules) → IsEnd e → IsEnd f → interface_in (end_of e) ≡ interface_in (end_of f) → after ≡ f.rules → IsEnd (with_rules e after)
kept e f after is other h rules = subst (λ (r : ReplyRules). IsEnd (with_rules e r)) (sym rules) (exchanged_is_end e f is h other.sound)

seen : (e f : Inside) (after : ReplyRules) (s t : TheEnd) → end_of e ≡ s → end_of f ≡ t → after ≡ f.rules → end_of (with_rules e after) ≡ with_rules_of s t
seen e f after s t e_is f_is rules =
    ap (λ (r : ReplyRules). end_of (with_rules e r)) rules
    ∙ ap (λ (x : TheEnd). with_rules_of x (end_of f)) e_is
    ∙ ap (λ (x : TheEnd). with_rules_of s x) f_is

pub invariant_of-self : goal.invariant_of-self
invariant_of-self c =
    kept c.self.inside c.other.inside c.swap.new.x c.self.invariant c.other.invariant
    (same c.self.inside c.other.inside c.args.self.now c.args.other.now c.self.view_is c.other.view_is c.requires.interface) c.swap.ensures.x_after

pub invariant_of-other : goal.invariant_of-other
invariant_of-other c =
    kept c.other.inside c.self.inside c.swap.new.y c.other.invariant c.self.invariant
    (sym (same c.self.inside c.other.inside c.args.self.now c.args.other.now c.self.view_is c.other.view_is c.requires.interface)) c.swap.ensures.y_after

pub returns : goal.returns
returns c = record {
  exchanges = (
    seen c.self.inside c.other.inside c.swap.new.x c.args.self.now c.args.other.now c.self.view_is c.other.view_is c.swap.ensures.x_after,
    seen c.other.inside c.self.inside c.swap.new.y c.args.other.now c.args.self.now c.other.view_is c.self.view_is c.swap.ensures.y_after,
  );
}
