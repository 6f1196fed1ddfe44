use Rattle.std.proofs.Common.{ap, ◌∙◌}
use Rattle.fl_hop.specs.Table.{stands}
use Rattle.fl_hop.proofs.Standing.{kept_is}
use Rattle.fl_hop.proofs.circuits.Circuits.stands.Goals as goal

pub returns : goal.returns
returns c = record {
  stands =
      c.is_kept.ensures.any
      ∙ kept_is c.self.inside.core.0 c.self.inside.links.items c.self.inside.cells.items c.self.inside.entries c.self.invariant c.args.binding
      ∙ ap (λ t. stands t c.args.binding) c.self.view_is;
}
