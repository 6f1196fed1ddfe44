use Rattle.std.proofs.Common.{◌∙◌, refl, sym, ap, true, false}
use Rattle.fl_base.specs.declared.fragment.Frag.{Frag}
use Rattle.fl_hop.specs.declared.entry.HopTarget.{HopTarget}
use Rattle.fl_hop.specs.declared.entry.HopTarget.TheVariants.{Link, End}
use Rattle.fl_hop.specs.declared.forward.HopFront.TheVariants as first
use Rattle.fl_core.proofs.Looking.{is_link_side, seen_first, goes_over, failed_so}
use Rattle.fl_core.proofs.one_core.Core.look.Goals as goal

pub returns-then-index : goal.returns-then-index
returns-then-index g c = record { looks = (is_link_side c.args.self.now _ c.self.view_is c.from.result c.args.link.0 c.from.ensures c.requires c.index.result.now c.index.ensures true c.if-index.true, refl, refl) }

pub returns-in-Ok-Nothing : goal.returns-in-Ok-Nothing
returns-in-Ok-Nothing g c = record { looks = (seen_first g.T.TakeSide.takes g.T.TakeSide.front c.args.self.now _ c.self.view_is c.args.link.0 (is_link_side c.args.self.now _ c.self.view_is c.from.result c.args.link.0 c.from.ensures c.requires c.index.result.now c.index.ensures false c.if-index.false) c.circuits.result.now c.circuits.ensures.circuits c.args.from.now c.look.new.from c.look.result c.in-Ok-Nothing.field-0 (first.Nothing) c.in-Ok-Nothing.is (c.in-Ok-Nothing.field-0-is) c.look.ensures.finds, refl) }

pub returns-in-Ok-Acknowledged : goal.returns-in-Ok-Acknowledged
returns-in-Ok-Acknowledged g c = record { looks = (seen_first g.T.TakeSide.takes g.T.TakeSide.front c.args.self.now _ c.self.view_is c.args.link.0 (is_link_side c.args.self.now _ c.self.view_is c.from.result c.args.link.0 c.from.ensures c.requires c.index.result.now c.index.ensures false c.if-index.false) c.circuits.result.now c.circuits.ensures.circuits c.args.from.now c.look.new.from c.look.result c.in-Ok-Acknowledged.field-0 (first.Acknowledged) c.in-Ok-Acknowledged.is (c.in-Ok-Acknowledged.field-0-is) c.look.ensures.finds, refl) }

pub returns-in-Ok-Monitor : goal.returns-in-Ok-Monitor
returns-in-Ok-Monitor g c = record { looks = (seen_first g.T.TakeSide.takes g.T.TakeSide.front c.args.self.now _ c.self.view_is c.args.link.0 (is_link_side c.args.self.now _ c.self.view_is c.from.result c.args.link.0 c.from.ensures c.requires c.index.result.now c.index.ensures false c.if-index.false) c.circuits.result.now c.circuits.ensures.circuits c.args.from.now c.look.new.from c.look.result c.in-Ok-Monitor.field-0 _ c.in-Ok-Monitor.is (c.in-Ok-Monitor.field-0-is ∙ ap (λ (frag : Frag). first.Monitor frag) (sym c.in-Ok-Monitor.frag-is)) c.look.ensures.finds, refl) }

pub returns-in-Ok-Goes-default-End : goal.returns-in-Ok-Goes-default-End
returns-in-Ok-Goes-default-End g c =
    let way = rw c.in-Ok-Goes-default-End.field-0-is at c.in-Ok-Goes-default-End.field-0-1-is in
    let frag = sym c.in-Ok-Goes-default-End.frag-is in
    let end = sym c.in-Ok-Goes-default-End.end-is in
    record { looks = (seen_first g.T.TakeSide.takes g.T.TakeSide.front c.args.self.now _ c.self.view_is c.args.link.0 (is_link_side c.args.self.now _ c.self.view_is c.from.result c.args.link.0 c.from.ensures c.requires c.index.result.now c.index.ensures false c.if-index.false) c.circuits.result.now c.circuits.ensures.circuits c.args.from.now c.look.new.from c.look.result c.in-Ok-Goes-default-End.field-0 _ c.in-Ok-Goes-default-End.is (c.in-Ok-Goes-default-End.field-0-is ∙ ap (λ (w : HopTarget). first.Goes c.in-Ok-Goes-default-End.frag w) way ∙ (λ i. first.Goes (frag i) (End (end i)))) c.look.ensures.finds, refl) }

pub returns-in-Ok-Goes-default-Link : goal.returns-in-Ok-Goes-default-Link
returns-in-Ok-Goes-default-Link g c =
    let way = rw c.in-Ok-Goes-default-Link.field-0-is at c.in-Ok-Goes-default-Link.field-0-1-is in
    let frag = sym c.in-Ok-Goes-default-Link.frag-is in
    let next = sym c.in-Ok-Goes-default-Link.next-is in
    let circuit = sym c.in-Ok-Goes-default-Link.circuit-is in
    record {
      looks = (
        goes_over g.T.TakeSide.takes g.T.TakeSide.front c.args.self.now _ c.self.view_is c.args.link.0 (is_link_side c.args.self.now _ c.self.view_is c.from.result c.args.link.0 c.from.ensures c.requires c.index.result.now c.index.ensures false c.if-index.false) c.circuits.result.now c.circuits.ensures.circuits c.args.from.now c.look.new.from c.look.result c.in-Ok-Goes-default-Link.field-0 _ _ _ c.in-Ok-Goes-default-Link.is
            (c.in-Ok-Goes-default-Link.field-0-is ∙ ap (λ (w : HopTarget). first.Goes c.in-Ok-Goes-default-Link.frag w) way ∙ (λ i. first.Goes (frag i) (Link (next i) (circuit i)))) c.look.ensures.finds c.self.invariant.link_sides
            c.from-in-Ok-Goes-default-Link.result c.index-in-Ok-Goes-default-Link.result.now c.from-in-Ok-Goes-default-Link.ensures c.index-in-Ok-Goes-default-Link.ensures,
        refl,
      );
    }

pub returns-in-Err : goal.returns-in-Err
returns-in-Err g c = record { looks = failed_so g.T.TakeSide.takes g.T.TakeSide.front c.args.self.now _ c.self.view_is c.args.link.0 (is_link_side c.args.self.now _ c.self.view_is c.from.result c.args.link.0 c.from.ensures c.requires c.index.result.now c.index.ensures false c.if-index.false) c.circuits.result.now c.circuits.ensures.circuits c.args.from.now c.look.new.from c.in-Err.fault c.fails.result c.fails.new.self c.in-Err.ensures.finds c.fails.ensures.fault c.fails.ensures.failed }
