use Rattle.std.proofs.Common.{◌<◌, ap, sym, subst, ◌∙◌, slice_index_or, slice_set, Result, Ok, Err, length-set}
use Rattle.std.proofs.lemmas.Option.{slice_get-get_or}
use Rattle.std.proofs.lemmas.Result.{err_from_is_err_and}
use Rattle.fl_hop.specs.declared.entry.HopTarget.{HopTarget}
use Rattle.fl_hop.specs.declared.entry.HopTarget.TheVariants.{Link, End}
use Rattle.fl_hop.specs.declared.fault.HopFault.{HopFault}
use Rattle.fl_hop.specs.declared.forward.HopFront.{HopFront}
use Rattle.fl_hop.specs.declared.forward.HopFront.TheVariants.{Nothing, Acknowledged, Monitor, Goes}
use Rattle.fl_hop.specs.Forward.{Finds}
use Rattle.fl_hop.proofs.Crossing.{went_on, looked_at, refused_at, first_after, incoming, change}
use Rattle.fl_hop.proofs.circuits.Circuits.forward.Given.{Over}
use Rattle.fl_hop.proofs.circuits.Circuits.forward.Goals as goal

pub bounds-sides-place : goal.bounds-sides-place
bounds-sides-place g c = c.if-place-sides.false

pub returns-in_err-look : goal.returns-in_err-look
returns-in_err-look g c =
    let p = err_from_is_err_and c.from_residual.result c.from_residual.ensures.1 in
    let before = slice_index_or c.args.sides.now c.from-place.result c.index-sides-place.result in
    let there = slice_get-get_or c.args.sides.now c.from-place.result c.index-sides-place.result c.if-place-sides.false in
    rw (p.1, p.2) record {
      forwards =
          refused_at g.S.TakeSide.takes g.S.PutSide.puts g.S.TakeSide.front (incoming c.args.self.now c.args.link.0)
          (change c.args.sides.now (slice_set c.args.sides.now c.from-place.result c.look.new.from)) c.in_err-look.field-0.0
          (looked_at g.S.TakeSide.takes g.S.TakeSide.front c.args.self.now c.args.link.0 c.args.sides.now before c.look.new.from (Err c.in_err-look.field-0.0) c.from-place.result
          c.from-place.ensures there c.in_err-look.ensures.finds);
    }

pub returns-in-Nothing : goal.returns-in-Nothing
returns-in-Nothing g c =
    let ok : HopFront → Result HopFront HopFault = λ f. Ok f in
    let before = slice_index_or c.args.sides.now c.from-place.result c.index-sides-place.result in
    let there = slice_get-get_or c.args.sides.now c.from-place.result c.index-sides-place.result c.if-place-sides.false in
    let finds = subst (λ r. Finds g.S.TakeSide.takes g.S.TakeSide.front (incoming c.args.self.now c.args.link.0) r (change before c.look.new.from)) (c.in_ok-look.was ∙ ap ok c.in-Nothing.is) c.look.ensures.finds in
    record {
      forwards =
          looked_at g.S.TakeSide.takes g.S.TakeSide.front c.args.self.now c.args.link.0 c.args.sides.now before c.look.new.from (Ok Nothing) c.from-place.result c.from-place.ensures
          there finds;
    }

pub returns-in-Acknowledged : goal.returns-in-Acknowledged
returns-in-Acknowledged g c =
    let ok : HopFront → Result HopFront HopFault = λ f. Ok f in
    let before = slice_index_or c.args.sides.now c.from-place.result c.index-sides-place.result in
    let there = slice_get-get_or c.args.sides.now c.from-place.result c.index-sides-place.result c.if-place-sides.false in
    let finds = subst (λ r. Finds g.S.TakeSide.takes g.S.TakeSide.front (incoming c.args.self.now c.args.link.0) r (change before c.look.new.from)) (c.in_ok-look.was ∙ ap ok c.in-Acknowledged.is) c.look.ensures.finds in
    record {
      forwards =
          looked_at g.S.TakeSide.takes g.S.TakeSide.front c.args.self.now c.args.link.0 c.args.sides.now before c.look.new.from (Ok Acknowledged) c.from-place.result c.from-place.ensures
          there finds;
    }

pub returns-in-Monitor : goal.returns-in-Monitor
returns-in-Monitor g c =
    let ok : HopFront → Result HopFront HopFault = λ f. Ok f in
    let before = slice_index_or c.args.sides.now c.from-place.result c.index-sides-place.result in
    let there = slice_get-get_or c.args.sides.now c.from-place.result c.index-sides-place.result c.if-place-sides.false in
    let finds = subst (λ r. Finds g.S.TakeSide.takes g.S.TakeSide.front (incoming c.args.self.now c.args.link.0) r (change before c.look.new.from)) (c.in_ok-look.was ∙ ap ok c.in-Monitor.is) c.look.ensures.finds in
    record {
      forwards =
          looked_at g.S.TakeSide.takes g.S.TakeSide.front c.args.self.now c.args.link.0 c.args.sides.now before c.look.new.from (Ok (Monitor c.in-Monitor.frag)) c.from-place.result c.from-place.ensures
          there finds;
    }

pub returns-in-Goes-default-End : goal.returns-in-Goes-default-End
returns-in-Goes-default-End g c =
    let ok : HopFront → Result HopFront HopFault = λ f. Ok f in
    let goes : HopTarget → HopFront = λ w. Goes c.in-Goes-default-End.frag w in
    let before = slice_index_or c.args.sides.now c.from-place.result c.index-sides-place.result in
    let there = slice_get-get_or c.args.sides.now c.from-place.result c.index-sides-place.result c.if-place-sides.false in
    let finds = subst (λ r. Finds g.S.TakeSide.takes g.S.TakeSide.front (incoming c.args.self.now c.args.link.0) r (change before c.look.new.from)) (c.in_ok-look.was ∙ ap ok (c.in-Goes-default-End.is ∙ ap goes c.in-Goes-default-End.field-1-is)) c.look.ensures.finds in
    record {
      forwards =
          looked_at g.S.TakeSide.takes g.S.TakeSide.front c.args.self.now c.args.link.0 c.args.sides.now before c.look.new.from (Ok (Goes c.in-Goes-default-End.frag (End c.in-Goes-default-End.end))) c.from-place.result c.from-place.ensures
          there finds;
    }

-- what the look found where the fragment goes on over a link
finds_on : (g : Over) (c : goal.After-frag-in-Goes-default-Link-1 g)
    → Finds g.S.TakeSide.takes g.S.TakeSide.front (incoming c.args.self.now c.args.link.0) (Ok (Goes c.in-Goes-default-Link.frag (Link c.in-Goes-default-Link.next c.in-Goes-default-Link.circuit)))
    (change (slice_index_or c.args.sides.now c.from-place.result c.index-sides-place.result) c.look.new.from)
finds_on g c =
    let ok : HopFront → Result HopFront HopFault = λ f. Ok f in
    let goes : HopTarget → HopFront = λ w. Goes c.in-Goes-default-Link.frag w in
    let before = slice_index_or c.args.sides.now c.from-place.result c.index-sides-place.result in
    subst (λ r. Finds g.S.TakeSide.takes g.S.TakeSide.front (incoming c.args.self.now c.args.link.0) r (change before c.look.new.from))
    (c.in_ok-look.was ∙ ap ok (c.in-Goes-default-Link.is ∙ ap goes c.in-Goes-default-Link.field-1-is)) c.look.ensures.finds

pub cross-outcome-requires-clause-from : goal.cross-outcome-requires-clause-from
cross-outcome-requires-clause-from g c = subst (λ n. c.from-place.result < n) (sym (length-set c.args.sides.now c.from-place.result c.look.new.from)) c.if-place-sides.false

pub cross-outcome-requires-clause-two : goal.cross-outcome-requires-clause-two
cross-outcome-requires-clause-two g c = λ same. (finds_on g c).5.1 (sym c.from-place.ensures ∙ same ∙ c.from.ensures)

pub cross-outcome-requires-clause-seen : goal.cross-outcome-requires-clause-seen
cross-outcome-requires-clause-seen g c = λ s stands.
    first_after g.S.TakeSide.front c.args.sides.now c.from-place.result (slice_index_or c.args.sides.now c.from-place.result c.index-sides-place.result) c.look.new.from s _
    (slice_get-get_or c.args.sides.now c.from-place.result c.index-sides-place.result c.if-place-sides.false) (finds_on g c).1 stands

pub cross-outcome-requires-clause-call : goal.cross-outcome-requires-clause-call
cross-outcome-requires-clause-call g c = (finds_on g c).4

pub returns-in-Goes-default-Link : goal.returns-in-Goes-default-Link
returns-in-Goes-default-Link g c =
    let goes : HopTarget → HopFront = λ w. Goes c.in-Goes-default-Link.frag w in
    let ok : HopFront → Result HopFront HopFault = λ f. Ok f in
    let way = c.in-Goes-default-Link.is ∙ ap goes c.in-Goes-default-Link.field-1-is in
    let before = slice_index_or c.args.sides.now c.from-place.result c.index-sides-place.result in
    let answer = c.in_ok-look.was ∙ ap ok way in
    let finds = subst (λ r. Finds g.S.TakeSide.takes g.S.TakeSide.front (incoming c.args.self.now c.args.link.0) r (change before c.look.new.from)) answer c.look.ensures.finds in
    record {
      forwards =
          went_on g.S.TakeSide.takes g.S.PutSide.puts g.S.TakeSide.front c.args.self.now c.args.link.0 c.args.sides.now before c.look.new.from
          c.in-Goes-default-Link.frag c.in-Goes-default-Link.next c.in-Goes-default-Link.circuit c.cross-outcome.result c.cross-outcome.new.sides
          c.from-place.result c.from.result c.from-place.ensures c.from.ensures
          (slice_get-get_or c.args.sides.now c.from-place.result c.index-sides-place.result c.if-place-sides.false)
          finds.5.1 finds c.cross-outcome.ensures.crosses;
    }
