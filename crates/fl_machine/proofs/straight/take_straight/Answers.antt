use Rattle.std.proofs.Common.{◌≡◌, List, ℕ, [], Some, take, length, slice_get, sym, ◌∙◌, subst, arith}
use Rattle.fl_machine.specs.Taking.{words_bytes, IsFed}
use Rattle.fl_machine.specs.Straight.{straight_intake}
use Rattle.fl_machine.proofs.Intakes.{fed_first, at_last, payload_whole}
use Rattle.fl_machine.proofs.Straights.{straight_new, straight_takes, straight_narrow, straight_step}
use Rattle.fl_machine.proofs.straight.take_straight.Goals as goal

pub loop-place-init : goal.loop-place-init
loop-place-init c = (
  omega arith,
  omega arith,
  c.told-places,
  subst (λ (left : List ℕ). IsFed c.args.ops.now [] (straight_intake 0 0 0) (words_bytes c.args.words.now) left) (sym c.spread.ensures)
      (fed_first c.args.ops.now [] [] (words_bytes c.args.words.now) (straight_intake 0 0 0) (straight_new c.args.ops.now c.requires.code)),
)

pub returns-in-Ok-clause-whole : goal.returns-in-Ok-clause-whole
returns-in-Ok-clause-whole c =
    let there : slice_get c.args.ops.now c.loop-place.place ≡ Some c.in-Some.op = sym c.op_at.ensures ∙ c.in-Some.is in
    let fed = c.loop-place.invariant.3 in
    let here = straight_intake c.loop-place.place c.loop-place.count c.loop-place.used in
    let long : length c.spread.new.buffer ≡ 64 = omega arith in
    payload_whole c.args.ops.now (take c.loop-place.count c.loop-place.places) here (words_bytes c.args.words.now) c.spread.new.buffer c.loop-place.used fed
    (at_last c.args.ops.now here c.in-Some.op there fed.at.stance (c.is_last.ensures.yes c.if-is_last.true)) long c.in-Ok.ensures.whole.1

pub of-field-requires : goal.of-field-requires
of-field-requires c =
    let there : slice_get c.args.ops.now c.loop-place.place ≡ Some c.in-Some.op = sym c.op_at.ensures ∙ c.in-Some.is in
    straight_takes c.args.ops.now (straight_intake c.loop-place.place c.loop-place.count c.loop-place.used) c.in-Some.op there (c.is_straight.ensures.straight c.if-not-is_straight.false) c.loop-place.invariant.3.at.stance

pub number_at-requires-clause-narrow : goal.number_at-requires-clause-narrow
number_at-requires-clause-narrow c =
    let there : slice_get c.args.ops.now c.loop-place.place ≡ Some c.in-Some.op = sym c.op_at.ensures ∙ c.in-Some.is in
    straight_narrow c.args.ops.now (take c.loop-place.count c.loop-place.places) (straight_intake c.loop-place.place c.loop-place.count c.loop-place.used) (words_bytes c.args.words.now) _
    c.in-Some.op c.of-field.result there (c.is_straight.ensures.straight c.if-not-is_straight.false) c.loop-place.invariant.3 c.of-field.ensures

pub loop-place-preserved : goal.loop-place-preserved
loop-place-preserved c =
    let there : slice_get c.args.ops.now c.loop-place.place ≡ Some c.in-Some.op = sym c.op_at.ensures ∙ c.in-Some.is in
    let number = c.in-Some-number_at.ensures in (
      number.inside,
      c.in-Some-put.ensures.few,
      c.put.array_long,
      straight_step c.args.ops.now (take c.loop-place.count c.loop-place.places) (take c.in-Some-put.more c.put.new.places) (words_bytes c.args.words.now) c.spread.new.buffer
          c.loop-place.place c.loop-place.count c.in-Some-put.more c.loop-place.used c.in-Some.op c.of-field.result c.in-Some-number_at.number
          c.loop-place.invariant.3 there (c.is_straight.ensures.straight c.if-not-is_straight.false) c.of-field.ensures number c.in-Some-put.ensures.tape,
    )
