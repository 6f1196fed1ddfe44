use Rattle.std.proofs.Common.{◌≡◌, ◌<◌, map, length, get_or, arith, refl, sym, ap, ◌∙◌}
use Rattle.std.proofs.lemmas.List.{length-map, get_or-map}
use Rattle.fl_interface.specs.declared.interface.Scalar.TheVariants.{Uint64}
use Rattle.fl_interface.specs.Interface.{arg_type_of, fixed, scalar}
use Rattle.fl_value_data.specs.Value.{datum_of}
use Rattle.fl_value_data.specs.Plan.{rank_of}
use Rattle.fl_wire.proofs.Parts.{pushed}
use Rattle.fl_wire.proofs.Scalars.{wide_rank, rises_all, up_on, wide_on, order_start, order_on, order_read}
use Rattle.fl_wire.proofs.call.read_scalar_arguments.Goals as goal
use Rattle.fl_wire.proofs.call.read_scalar_arguments.Goals.{then-least-eq0+then-at-eq0+then-is_wide+else-frag-frags, else-least-eq0+in-Some}

pub read_wide-value-requires : goal.read_wide-value-requires
read_wide-value-requires c = record { inside = c.loop-ty.invariant.inside }

pub push_reserved-requires : goal.push_reserved-requires
push_reserved-requires c = omega (arith, c.loop-ty.invariant.count, c.loop-ty.invariant.room, c.loop-ty-test.true)

pub word_after-after-requires-clause-inside : goal.word_after-after-requires-clause-inside
word_after-after-requires-clause-inside c = c.loop-ty.invariant.inside

pub push_reserved-requires-else-least-eq0 : goal.push_reserved-requires-else-least-eq0
push_reserved-requires-else-least-eq0 c = omega (arith, c.loop-ty.invariant.count, c.loop-ty.invariant.room, c.loop-ty-test.true)

pub loop-ty-init : goal.loop-ty-init
loop-ty-init c =
    let ts = map arg_type_of c.args.types.now in
    let made = c.in-Ok.ensures in
    record {
      within = omega arith;
      up = rises_all c.args.plan ts;
      come = rw made.items (order_start ts c.args.frags.now);
      place = λ even. refl;
      inside = omega arith;
      count = made.len;
      room = made.capacity;
    }

pub loop-ty-preserved : goal.loop-ty-preserved
loop-ty-preserved c =
    let plan = c.args.plan in
    let types = c.args.types.now in
    let frags = c.args.frags.now in
    let ts = map arg_type_of types in
    let i = c.loop-ty.ty-index in
    let t = arg_type_of c.ty-item.result in
    let inv = c.loop-ty.invariant in
    let xs = c.loop-ty.values.items in
    let small : i < length ts = omega (arith, c.loop-ty-test.true, length-map types arg_type_of) in
    let here : t ≡ get_or ts i t = ap arg_type_of c.ty-item.is ∙ sym (get_or-map arg_type_of types i c.ty-item.result t c.loop-ty-test.true) in
    elim c.if-least-eq0.branch [
      | then-least-eq0+then-at-eq0+then-is_wide+else-frag-frags w ↦
          let wide : t ≡ fixed (scalar Uint64) = w.is_wide.ensures.wide w.if-is_wide.true in
          let place = inv.place w.if-at-eq0.true in
          let there : c.loop-ty.frag < length frags = omega (arith, w.if-frag-frags.false) in
          let first : rank_of plan t ≡ 0 = ap (rank_of plan) wide ∙ wide_rank plan in
          record {
            within = omega (arith, w.at-is, place, there, inv.inside);
            up = up_on plan ts i c.loop-ty.least c.if-least-eq0.least t small here (omega (arith, w.least-is)) (omega (arith, w.least-is, w.if-least-eq0.true, first)) inv.up;
            come = rw w.values-is (wide_on ts i t frags c.loop-ty.frag c.loop-ty.word c.loop-ty.at c.if-least-eq0.at (map datum_of xs) (map datum_of w.push_reserved.new.self.items) (datum_of w.read_wide-value.result) small here
                wide inv.come place (omega (arith, w.at-is)) there inv.inside (w.read_wide-value.ensures.read there) (pushed datum_of xs w.push_reserved.new.self.items w.read_wide-value.result w.push_reserved.ensures.items));
            place = λ even. omega (arith, w.frag-is, w.word-is, w.at-is, w.word_after-after.ensures.place, place);
            inside = omega (arith, w.word-is, w.word_after-after.ensures.inside);
            count = rw w.values-is (omega (arith, w.push_reserved.ensures.len, inv.count));
            room = rw w.values-is (omega (arith, w.push_reserved.ensures.capacity, inv.room));
          }
      | else-least-eq0+in-Some w ↦
          let read = w.in-Some.ensures in
          let pushed' = w.push_reserved-else-least-eq0 in
          record {
            within = omega (arith, w.at-is, read.within);
            up = up_on plan ts i c.loop-ty.least c.if-least-eq0.least t small here (omega (arith, w.least-is, read.up)) (omega (arith, w.least-is, read.rank)) inv.up;
            come = rw (w.values-is, w.at-is) (order_on ts i t frags c.loop-ty.at w.in-Some.end (map datum_of xs) (map datum_of pushed'.new.self.items) (datum_of w.in-Some.value) small here read.fixed
                inv.come read.later read.within read.read (pushed datum_of xs pushed'.new.self.items w.in-Some.value pushed'.ensures.items));
            place = λ even. omega (arith, even, w.frag-is, w.word-is, w.at-is);
            inside = omega (arith, w.word-is);
            count = rw w.values-is (omega (arith, pushed'.ensures.len, inv.count));
            room = rw w.values-is (omega (arith, pushed'.ensures.capacity, inv.room));
          }
    ]

pub returns-clause-read : goal.returns-clause-read
returns-clause-read c =
    let types = c.args.types.now in
    let ts = map arg_type_of types in
    let inv = c.loop-ty.invariant in
    order_read c.args.plan ts c.loop-ty.ty-index c.loop-ty.least c.args.frags.now c.loop-ty.at (map datum_of c.loop-ty.values.items)
    (omega (arith, c.loop-ty-test.false, length-map types arg_type_of)) inv.up inv.come
