use Rattle.std.proofs.Common.{◌≡◌, ◌∙◌, ap, true}
use Rattle.flounder_svg.specs.Xml.{Start}
use Rattle.flounder_svg.proofs.XmlLemmas.{new_for, not_new, one_more, before_value}
use Rattle.flounder_svg.proofs.xml.StartTag.with.Goals as goal

pub invariant_of-result : goal.invariant_of-result
invariant_of-result c =
    let yes : c.is_new.result ≡ true = (cc (c.is_new.ensures.same, c.if-not-is_new.ensures.same)) in
    let new = new_for c.self.inside.given.items c.deref.result.now c.args.attribute c.is_new.result c.is_new.ensures.same c.deref.ensures.value yes in
    let before = before_value c.self.inside.text.items c.push-2.new.self.items c.name.result.now c.extend_from_slice.new.self.items
    c.extend_from_slice-2.new.self.items c.args.attribute c.in_ok-push-2.ensures.items c.name.ensures.name
    c.in_ok-extend_from_slice.ensures.items c.in_ok-extend_from_slice-2.ensures.items in
    one_more c.self.inside.tag c.self.inside.given.items c.push.new.self.items c.self.inside.text.items c.extend_from_slice-2.new.self.items
    c.put_data.new.out.items c.push-3.new.self.items _ c.args.attribute c.self.invariant new c.in_ok-push.ensures.items before
    c.in_ok-put_data.ensures.put c.in_ok-push-3.ensures.items

pub returns-then-not-is_new-clause-one : goal.returns-then-not-is_new-clause-one
returns-then-not-is_new-clause-one c =
    λ n. absurd (not_new c.args.self.given c.deref.result.now c.args.attribute c.if-not-is_new.ensures.same
    (c.deref.ensures.value ∙ ap (λ (s : Start). s.given) c.self.view_is) n)

pub returns-clause-same : goal.returns-clause-same
returns-clause-same c =
    let yes : c.is_new.result ≡ true = (cc (c.is_new.ensures.same, c.if-not-is_new.ensures.same)) in
    λ h. absurd (h (new_for c.args.self.given c.deref.result.now c.args.attribute c.is_new.result c.is_new.ensures.same
    (c.deref.ensures.value ∙ ap (λ (s : Start). s.given) c.self.view_is) yes))
