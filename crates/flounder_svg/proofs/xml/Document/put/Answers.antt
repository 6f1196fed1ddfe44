use Rattle.std.proofs.Common.{◌∙◌, ◌++◌, refl}
use Rattle.std.specs.Prelude.{is_ok}
use Rattle.flounder_svg.proofs.XmlLemmas.{either_way, put_by}
use Rattle.flounder_svg.proofs.xml.Document.put.Goals as goal

pub invariant_of-self : goal.invariant_of-self
invariant_of-self c =
    either_way c.self.inside.tags.items c.self.inside.text.items c.extend_from_slice-2.new.self.items c.deref.result.now
    (is_ok c.extend_from_slice-2.result) c.self.invariant
    (put_by c.self.inside.tags.items c.self.inside.text.items (c.self.inside.text.items ++ c.deref.result.now) c.element.inside.tag
    c.element.inside.given.items c.element.inside.text.items c.deref.result.now c.self.invariant c.element.invariant
    (c.deref.ensures.value ∙ c.in_ok-extend_from_slice.ensures.items) refl)
    c.extend_from_slice-2.ensures.items
