use Rattle.std.proofs.Common.{◌∙◌}
use Rattle.flounder_svg.proofs.XmlLemmas.{begun_by}
use Rattle.flounder_svg.proofs.xml.Document.begin.Goals as goal

pub invariant_of-self-in_default : goal.invariant_of-self-in_default
invariant_of-self-in_default c =
    begun_by c.self.inside.tags.items c.push-2.new.self.items c.self.inside.text.items c.extend_from_slice.new.self.items
    c.start.inside.tag c.start.inside.given.items c.start.inside.text.items c.deref.result.now c.self.invariant c.start.invariant
    (c.deref.ensures.value ∙ c.in_ok-push.ensures.items) c.in_ok-push-2.ensures.items c.in_default.ensures.items
