use Rattle.flounder_svg.proofs.XmlLemmas.{closed_by}
use Rattle.flounder_svg.proofs.xml.Document.close_with.Goals as goal

pub invariant_of-self-in_default-append_end : goal.invariant_of-self-in_default-append_end
invariant_of-self-in_default-append_end c =
    closed_by c.self.inside.tags.items c.pop.new.self.items c.in-Some.tag c.self.inside.text.items c.append_end.new.text.items
    c.args.behind.now c.args.behind.now c.self.invariant c.in-Some.ensures.items c.requires c.in_default-append_end.ensures.items
