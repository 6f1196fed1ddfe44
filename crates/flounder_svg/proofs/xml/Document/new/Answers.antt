use Rattle.std.proofs.Common.{◌∙◌, ap}
use Rattle.flounder_svg.specs.Xml.{Start}
use Rattle.flounder_svg.proofs.XmlLemmas.{root_by}
use Rattle.flounder_svg.proofs.xml.Document.new.Goals as goal

pub invariant_of-result : goal.invariant_of-result
invariant_of-result c =
    root_by c.new.result.items c.root.inside.tag c.root.inside.given.items c.root.inside.text.items c.extend_from_slice.new.self.items
    c.root.invariant c.new.ensures.items (ap (λ (s : Start). s.tag) c.root.view_is ∙ c.requires) c.in_ok-extend_from_slice.ensures.items
