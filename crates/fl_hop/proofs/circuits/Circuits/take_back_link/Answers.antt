use Rattle.std.proofs.Common.{◌∙◌, sym, ap, subst, length, List}
use Rattle.fl_hop.specs.declared.entry.Cell.{Cell}
use Rattle.fl_hop.specs.Slots.{table_of, SlotsKept}
use Rattle.fl_hop.proofs.Retaking.{left_kept, table_before}
use Rattle.fl_hop.proofs.circuits.Circuits.take_back_link.Goals as goal

pub invariant_of-self : goal.invariant_of-self
invariant_of-self c =
    subst (λ (x : List Cell). SlotsKept c.self.inside.core.0 c.pop.new.self.items x c.self.inside.entries) (sym c.truncate.ensures.items)
    (left_kept c.self.inside.core.0 c.self.inside.links.items c.self.inside.cells.items c.self.inside.entries c.self.invariant c.requires.before c.requires.neighbour (c.self.view_is ∙ c.requires.table)
    c.pop.new.self.items _ (length c.as_slice-links.result.now) c.self.inside.links.ok.0 c.pop.ensures.rest (ap length c.as_slice-links.ensures.value))

pub returns : goal.returns
returns c = record {
  before = λ t to grown.
      ap (λ (x : List Cell). table_of c.self.inside.core.0 c.pop.new.self.items x c.self.inside.entries) c.truncate.ensures.items
      ∙ table_before c.self.inside.core.0 c.self.inside.links.items c.self.inside.cells.items c.self.inside.entries c.self.invariant t to (c.self.view_is ∙ grown)
      c.pop.new.self.items _ (length c.as_slice-links.result.now) c.self.inside.links.ok.0 c.pop.ensures.rest (ap length c.as_slice-links.ensures.value);
}
