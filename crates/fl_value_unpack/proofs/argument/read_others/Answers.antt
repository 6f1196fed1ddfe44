use Rattle.std.proofs.Common.{◌≡◌, ◌++◌, List, length, map, rules, sym, ◌∙◌, ap, subst, arith, append-nil}
use Rattle.std.proofs.lemmas.List.{take_all, length_push}
use Rattle.fl_interface.specs.declared.interface.ArgType.{ArgType}
use Rattle.fl_interface.specs.declared.interface.FixedType.TheViews.{the_lemmas}
use Rattle.fl_interface.specs.declared.interface.FixedType.TheFolds.{fold-roll-FixedType, fold_out-FixedType}
use Rattle.fl_interface.specs.Interface.{TheType, TheArgType, arg_type_of, type_step, scalar, fixed}
use Rattle.fl_value_data.specs.Value.{datum_of}
use Rattle.fl_value_data.specs.Taken.{InTurn}
use Rattle.fl_value_unpack.specs.Reading.{PackedArgumentAt, OnlyOne}
use Rattle.fl_value_unpack.proofs.Onlys.{fixed_only, behind_more}
use Rattle.fl_value_unpack.proofs.argument.read_others.Goals as goal

pub loop-argument-init : goal.loop-argument-init
loop-argument-init c = record {
  inside = omega arith;
  few = omega arith;
  count = omega arith;
  room = c.requires.room;
  only = λ done whole start.
      subst (λ (ts : List TheArgType). OnlyOne (InTurn PackedArgumentAt ts whole) (map datum_of c.args.before.items) c.args.tape.now) (sym (append-nil done)) start;
}

pub push_reserved-requires : goal.push_reserved-requires
push_reserved-requires c = omega (arith, c.loop-argument.invariant.count, c.loop-argument.invariant.room, c.loop-argument-test.true)

pub push_reserved-requires-in-loop-argument : goal.push_reserved-requires-in-loop-argument
push_reserved-requires-in-loop-argument c = omega (arith, c.loop-argument.invariant.count, c.loop-argument.invariant.room, c.loop-argument-test.true)

pub loop-argument-preserved-in-Fixed-Scalar : goal.loop-argument-preserved-in-Fixed-Scalar
loop-argument-preserved-in-Fixed-Scalar c =
    let argument = c.argument-item.result in
    let kind = c.in-Fixed-Scalar.kind in
    let read = c.read_scalar-number in
    let inv = c.loop-argument.invariant in
    let next = c.loop-argument.rest.now in
    let is : fixed (scalar kind) ≡ arg_type_of argument = search (rules, the_lemmas, fold-roll-FixedType TheType type_step, fold_out-FixedType TheType type_step) in
    let one = subst (λ (t : TheArgType). OnlyOne (PackedArgumentAt t next) (datum_of read.result.0) read.result.1.now) is
    (fixed_only (scalar kind) next (datum_of read.result.0) read.result.1.now read.ensures.only) in
    record {
      inside = omega (arith, c.loop-argument-test.true);
      few = ap length c.push_reserved.ensures.items ∙ length_push c.loop-argument.values.items read.result.0 ∙ omega (arith, inv.few);
      count = omega (arith, c.push_reserved.ensures.len, inv.count);
      room = omega (arith, c.push_reserved.ensures.capacity, inv.room);
      only = λ done whole start.
          behind_more c.args.arguments.now c.loop-argument.argument-index argument done whole c.loop-argument.values.items c.push_reserved.new.self.items next read.result.1.now read.result.0
          c.loop-argument-test.true c.argument-item.is c.push_reserved.ensures.items (inv.only done whole start) one;
    }

pub loop-argument-preserved : goal.loop-argument-preserved
loop-argument-preserved c =
    let inv = c.loop-argument.invariant in
    let all = c.push_reserved-in-loop-argument in
    record {
      inside = omega (arith, c.loop-argument-test.true);
      few = ap length all.ensures.items ∙ length_push c.loop-argument.values.items c.in_ok-value.value ∙ omega (arith, inv.few);
      count = omega (arith, all.ensures.len, inv.count);
      room = omega (arith, all.ensures.capacity, inv.room);
      only = λ done whole start.
          behind_more c.args.arguments.now c.loop-argument.argument-index c.argument-item.result done whole c.loop-argument.values.items all.new.self.items c.loop-argument.rest.now
          c.in_ok-value.after.now c.in_ok-value.value c.loop-argument-test.true c.argument-item.is all.ensures.items (inv.only done whole start) c.in_ok-value.ensures.only;
    }

pub returns-clause-many : goal.returns-clause-many
returns-clause-many c =
    let inv = c.loop-argument.invariant in
    omega (arith, inv.few, inv.inside, c.loop-argument-test.false)

pub returns-clause-only : goal.returns-clause-only
returns-clause-only c = λ done whole start.
    let all = take_all c.loop-argument.argument-index c.args.arguments.now c.loop-argument-test.false in
    subst (λ (ts : List ArgType). OnlyOne (InTurn PackedArgumentAt (done ++ map arg_type_of ts) whole) (map datum_of c.loop-argument.values.items) c.loop-argument.rest.now) all
    (c.loop-argument.invariant.only done whole start)
