use Rattle.std.proofs.Common.{ℕ, sym, ap, ◌∙◌, subst, Option, Some, IfSome}
use Rattle.fl_link.specs.Looks.{Look, peeked}
use Rattle.fl_link.specs.declared.sides.Sight.{Sight}
use Rattle.fl_hop.specs.declared.entry.HopTarget.{HopTarget}
use Rattle.fl_hop.specs.declared.entry.HopTarget.TheVariants.{Link}
use Rattle.fl_hop.specs.Later.{way_at}
use Rattle.fl_hop.specs.Forward.{IsOther}
use Rattle.fl_hop.proofs.Numbering.{of_call}
use Rattle.fl_hop.proofs.circuits.Circuits.look.Goals as goal

pub returns-in-Some-Link : goal.returns-in-Some-Link
returns-in-Some-Link g c =
    let some : HopTarget → Option HopTarget = λ w. Some w in
    let is = c.in-Some-Link.is ∙ ap some c.in-Some-Link.field-0-is in
    let P : Option HopTarget → Type 0 = λ o. IfSome o (IsOther c.args.self.now c.args.link.0) in
    let other : IsOther c.args.self.now c.args.link.0 (Link c.in-Some-Link.next c.in-Some-Link.number) = subst P is c.route_of.ensures.other in
    let look : Sight → Look = λ s. peeked s in
    let at : ℕ → Option HopTarget = λ n. way_at c.args.self.now c.args.link.0 n in
    let takes : Look → Type 0 = λ k. g.T.TakeSide.takes c.args.from.now k c.peek.new.self in
    record {
      finds = (
        subst takes (ap look c.in-Data.is) c.peek.ensures.look,
        sym c.peek.ensures.front ∙ ap look c.in-Data.is,
        (λ z. c.if-circuit-eq0.false (c.circuit-circuit.ensures ∙ z)),
        ap at (sym c.circuit-circuit.ensures) ∙ sym c.route_of.ensures.route ∙ is,
        of_call c.in-Data.frag c.in-Some-Link.number.0 other.2 other.3,
        other,
      );
    }
