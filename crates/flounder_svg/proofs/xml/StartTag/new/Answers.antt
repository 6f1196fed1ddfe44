use Rattle.flounder_svg.proofs.XmlLemmas.{named_by}
use Rattle.flounder_svg.proofs.xml.StartTag.new.Goals as goal

pub invariant_of-result : goal.invariant_of-result
invariant_of-result c =
    named_by c.args.tag c.new.result.items c.new-text.result.items c.push.new.self.items c.name.result.now c.extend_from_slice.new.self.items
    c.new.ensures.items c.new-text.ensures.items c.in_ok-push.ensures.items c.name.ensures.name c.in_ok-extend_from_slice.ensures.items
