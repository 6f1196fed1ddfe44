use Rattle.std.proofs.Common.{◌≡◌, inl, inr, refl, ap, ◌∙◌, subst, slice_get, slice_set, slice_index_or, length-set, Result, Some, Err, arith}
use Rattle.std.proofs.lemmas.Option.{slice_get-get_or}
use Rattle.fl_base.specs.declared.fragment.Frag.{Frag}
use Rattle.fl_base.specs.Control.{bare}
use Rattle.fl_link.specs.Looks.{Look, placed}
use Rattle.fl_link.specs.declared.fault.PutFault.{PutFault}
use Rattle.fl_hop.specs.declared.forward.ForwardOutcome.TheVariants.{Moved, Full, Spent}
use Rattle.fl_hop.proofs.Lists.{at_within, set_cases}
use Rattle.fl_hop.proofs.Crossing.{crosses_stay, crosses_on}
use Rattle.fl_hop.proofs.forward.cross.Goals as goal

pub returns-in-Err-Full : goal.returns-in-Err-Full
returns-in-Err-Full g c =
    let err : PutFault → Result (Unit {0}) PutFault = λ e. Err e in
    let (s, there) = at_within c.args.sides.now c.args.from c.requires.from in
    record {
      crosses =
          crosses_stay g.S.TakeSide.takes g.S.PutSide.puts c.args.sides.now c.args.from c.args.to c.args.frag.now c.args.circuit.0 Full s
          (slice_index_or c.args.sides.now c.args.to c.index-sides-to.result) c.put.new.self there
          (slice_get-get_or c.args.sides.now c.args.to c.index-sides-to.result c.requires.to)
          refl (c.put.ensures.full (c.in-Err-Full.is ∙ ap err c.in-Err-Full.field-0-is));
    }

pub returns-in-Err-Spent : goal.returns-in-Err-Spent
returns-in-Err-Spent g c =
    let err : PutFault → Result (Unit {0}) PutFault = λ e. Err e in
    let (s, there) = at_within c.args.sides.now c.args.from c.requires.from in
    record {
      crosses =
          crosses_stay g.S.TakeSide.takes g.S.PutSide.puts c.args.sides.now c.args.from c.args.to c.args.frag.now c.args.circuit.0 Spent s
          (slice_index_or c.args.sides.now c.args.to c.index-sides-to.result) c.put.new.self there
          (slice_get-get_or c.args.sides.now c.args.to c.index-sides-to.result c.requires.to)
          refl (c.put.ensures.spent (c.in-Err-Spent.is ∙ ap err c.in-Err-Spent.field-0-is));
    }

pub returns-in-Ok : goal.returns-in-Ok
returns-in-Ok g c =
    let p = slice_index_or c.args.sides.now c.args.to c.index-sides-to.result in
    let after = slice_set c.args.sides.now c.args.to c.put.new.self in
    let s = slice_index_or after c.args.from c.index-sides-from.result in
    let stood : slice_get after c.args.from ≡ Some s = slice_get-get_or after c.args.from c.index-sides-from.result (omega (arith, length-set c.args.sides.now c.args.to c.put.new.self, c.requires.from)) in
    let there : slice_get c.args.sides.now c.args.from ≡ Some s =
    elim (set_cases c.args.sides.now c.args.to c.put.new.self c.args.from s stood) [
      | inl (same, e) ↦ absurd (c.requires.two same)
      | inr (other, e) ↦ e
    ] in
    let put : Frag → Type 0 = λ f. g.S.PutSide.puts p (placed (bare f)) c.put.new.self in
    let take : Look → Type 0 = λ k. g.S.TakeSide.takes s k c.take.new.self in
    record {
      crosses =
          crosses_on g.S.TakeSide.takes g.S.PutSide.puts c.args.sides.now c.args.from c.args.to c.args.frag.now c.args.circuit.0 Moved s p c.put.new.self c.take.new.self
          c.requires.two there
          (slice_get-get_or c.args.sides.now c.args.to c.index-sides-to.result c.requires.to)
          (subst take (c.take.ensures.data (bare c.args.frag.now) (c.requires.seen s there)) c.take.ensures.look)
          (subst put c.with_circuit-frag.ensures.set c.in-Ok.ensures.placed);
    }
