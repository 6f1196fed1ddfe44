use Rattle.std.proofs.Common.{subst}
use Rattle.fl_hop.specs.Joined.{Sound}
use Rattle.fl_hop.proofs.Sounds.{sound}
use Rattle.fl_hop.proofs.law.law_never_shared.Goals as goal

pub returns : goal.returns
returns c = record {
  sound = subst Sound c.circuits.view_is (sound c.circuits.inside.core.0 c.circuits.inside.links.items c.circuits.inside.cells.items c.circuits.inside.entries c.circuits.invariant);
}
