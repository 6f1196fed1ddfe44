use Rattle.std.proofs.Common.{◌++◌, ap, List, ℕ}
use Rattle.std.specs.Prelude.{is_ok}
use Rattle.flounder_svg.proofs.XmlLemmas.{either_way, said_by}
use Rattle.flounder_svg.proofs.xml.Document.say.Goals as goal

pub invariant_of-self : goal.invariant_of-self
invariant_of-self c =
    either_way c.self.inside.tags.items c.self.inside.text.items c.extend_from_slice.new.self.items c.deref.result.now
    (is_ok c.extend_from_slice.result) c.self.invariant
    (said_by c.self.inside.tags.items c.self.inside.text.items (c.self.inside.text.items ++ c.deref.result.now) c.new-shown.result.items
    c.put_data.new.out.items _ c.self.invariant c.new-shown.ensures.items c.in_ok-put_data.ensures.put
    (ap (λ (l : List ℕ). c.self.inside.text.items ++ l) c.deref.ensures.value))
    c.extend_from_slice.ensures.items
