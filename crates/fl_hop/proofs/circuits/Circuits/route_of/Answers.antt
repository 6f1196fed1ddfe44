use Rattle.std.proofs.Common.{◌≡◌, sym, ◌∙◌, subst, Some}
use Rattle.fl_hop.specs.Table.{TheCircuits, hop_at}
use Rattle.fl_hop.specs.Forward.{IsOther}
use Rattle.fl_hop.proofs.Sounds.{other}
use Rattle.fl_hop.proofs.circuits.Circuits.route_of.Goals as goal

pub returns-in-Some-clause-other : goal.returns-in-Some-clause-other
returns-in-Some-clause-other c =
    let P : TheCircuits → Type 0 = λ t. hop_at t c.args.link.0 c.args.circuit.0 ≡ Some c.in-Some.hop → IsOther t c.args.link.0 c.in-Some.hop.way in
    subst P c.self.view_is (other c.self.inside.core.0 c.self.inside.links.items c.self.inside.cells.items c.self.inside.entries c.self.invariant c.args.link.0 c.args.circuit.0 c.in-Some.hop)
    (sym c.hop_of.ensures.hop ∙ c.in-Some.is)
