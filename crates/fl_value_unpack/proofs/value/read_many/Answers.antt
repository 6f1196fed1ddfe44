use Rattle.std.proofs.Common.{◌≡◌, ◌∙◌, ℕ, map, replicate, arith, ap, sym, subst, rules}
use Rattle.std.proofs.lemmas.Grind.{replicate_next}
use Rattle.std.proofs.lemmas.Int.{to_z-of_z}
use mir.Syntax.{w128}
use mir.Val.{SFits}
use Rattle.fl_interface.specs.Interface.{scalar}
use Rattle.fl_value_data.specs.Value.{Datum, number, datum_of}
use Rattle.fl_value_data.specs.Taken.{InTurn}
use Rattle.fl_value_unpack.specs.Reading.{PackedValueAt, OnlyOne}
use Rattle.fl_value_unpack.proofs.Onlys.{start_only, one_more}
use Rattle.fl_value_unpack.proofs.value.read_many.Goals as goal

pub loop-done-init : goal.loop-done-init
loop-done-init c = record {
  count = c.in_ok-values.ensures.len;
  room = omega (arith, c.in_ok-values.ensures.capacity);
  only = start_only PackedValueAt c.args.tape.now c.in_ok-values.values.items c.in_ok-values.ensures.items;
}

pub push_reserved-requires : goal.push_reserved-requires
push_reserved-requires c = omega (arith, c.loop-done.invariant.count, c.loop-done.invariant.room, c.loop-done-test.true)

pub loop-done-preserved : goal.loop-done-preserved
loop-done-preserved c =
    let inv = c.loop-done.invariant in
    let t = scalar c.args.kind in
    let z = c.read_told-number.result.0 in
    let rest = c.read_told-number.result.1.now in
    let fits : SFits w128 z = search rules in
    let value = c.int_value.ensures.value ∙ ap number (to_z-of_z w128 z fits) in
    let one = subst (λ (d : Datum). OnlyOne (PackedValueAt t c.loop-done.rest.now) d rest) (sym value) c.read_told-number.ensures.only in
    record {
      count = omega (arith, c.push_reserved.ensures.len, inv.count);
      room = omega (arith, c.push_reserved.ensures.capacity, inv.room);
      only = one_more PackedValueAt (replicate c.loop-done.done t) _ t c.args.tape.now c.loop-done.values.items c.push_reserved.new.self.items c.loop-done.rest.now rest c.int_value.result
          (replicate_next c.loop-done.done t) c.push_reserved.ensures.items inv.only one;
    }

pub returns : goal.returns
returns c =
    let all : c.loop-done.done ≡ c.args.count = omega arith in
    record {
      only = subst (λ (n : ℕ). OnlyOne (InTurn PackedValueAt (replicate n (scalar c.args.kind)) c.args.tape.now) (map datum_of c.loop-done.values.items) c.loop-done.rest.now) all c.loop-done.invariant.only;
    }
