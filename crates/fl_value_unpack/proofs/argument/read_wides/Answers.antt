use Rattle.std.proofs.Common.{◌≡◌, ◌+◌, ◌<◌, ℕ, length, map, take, drop, get_or, vec_len, sym, ◌∙◌, ap, subst, arith}
use Rattle.std.proofs.lemmas.List.{length_push}
use Rattle.fl_interface.specs.declared.interface.Scalar.TheVariants.{Uint64}
use Rattle.fl_interface.specs.Interface.{TheArgType, arg_type_of, scalar}
use Rattle.fl_value_data.specs.Value.{datum_of}
use Rattle.fl_value_data.specs.Plan.{rising}
use Rattle.fl_value_data.specs.Taken.{InTurn}
use Rattle.fl_value_data.proofs.Turns.{map_taken, map_dropped}
use Rattle.fl_value_unpack.specs.Reading.{PackedArgumentAt, OnlyOne}
use Rattle.fl_value_unpack.proofs.Onlys.{start_only, one_more, fixed_only}
use Rattle.fl_value_unpack.proofs.Kept.{wide_rises}
use Rattle.fl_value_unpack.proofs.argument.read_wides.Goals as goal

pub loop-argument-init : goal.loop-argument-init
loop-argument-init c =
    let none : vec_len c.in_ok-values.values ≡ 0 = c.in_ok-values.ensures.length in
    record {
      few = ap length c.in_ok-values.ensures.none ∙ sym none;
      inside = omega (arith, none);
      room = c.in_ok-values.ensures.room;
      others = ap (λ (n : ℕ). rising (λ (t : TheArgType). t) 0 (map arg_type_of (drop n c.args.arguments.now))) none;
      only = subst (λ (n : ℕ). OnlyOne (InTurn PackedArgumentAt (map arg_type_of (take n c.args.arguments.now)) c.args.tape.now) (map datum_of c.in_ok-values.values.items) c.args.tape.now) (sym none)
          (start_only PackedArgumentAt c.args.tape.now c.in_ok-values.values.items c.in_ok-values.ensures.none);
    }

pub push_reserved-requires : goal.push_reserved-requires
push_reserved-requires c = omega (arith, c.in-Some.ensures.inside, c.len.ensures, c.loop-argument.invariant.room)

pub loop-argument-smaller : goal.loop-argument-smaller
loop-argument-smaller c = omega (arith, c.in-Some.ensures.inside, c.len.ensures, c.push_reserved.ensures.len)

pub loop-argument-preserved : goal.loop-argument-preserved
loop-argument-preserved c =
    let arguments = c.args.arguments.now in
    let before = c.loop-argument.values in
    let inv = c.loop-argument.invariant in
    let n = vec_len before in
    let a = c.in-Some.argument.now in
    let place : c.len.result ≡ n = c.len.ensures in
    let inside : n < length arguments = omega (arith, place, c.in-Some.ensures.inside) in
    let here : a ≡ get_or arguments n a = c.in-Some.ensures.there ∙ ap (λ (k : ℕ). get_or arguments k a) place in
    let long : vec_len c.push_reserved.new.self ≡ n + 1 = c.push_reserved.ensures.len in
    let wide = c.in-Some.ensures.wide in
    let read = c.read_one-number in
    let next = c.loop-argument.rest.now in
    let one = subst (λ (t : TheArgType). OnlyOne (PackedArgumentAt t next) (datum_of read.result.0) read.result.1.now) (sym wide)
    (fixed_only (scalar Uint64) next (datum_of read.result.0) read.result.1.now read.ensures.only) in
    let more = one_more PackedArgumentAt (map arg_type_of (take n arguments)) _ (arg_type_of a) c.args.tape.now before.items c.push_reserved.new.self.items next read.result.1.now read.result.0
    (map_taken arg_type_of arguments n a inside here) c.push_reserved.ensures.items inv.only one in
    let rises : rising (λ (t : TheArgType). t) 0 (map arg_type_of (drop n arguments)) ≡ rising (λ (t : TheArgType). t) 0 (map arg_type_of (drop (n + 1) arguments))
    = ap (rising (λ (t : TheArgType). t) 0) (map_dropped arg_type_of arguments n a inside here) ∙ wide_rises (arg_type_of a) (map arg_type_of (drop (n + 1) arguments)) wide in
    record {
      few = ap length c.push_reserved.ensures.items ∙ length_push before.items read.result.0 ∙ ap (λ (k : ℕ). k + 1) inv.few ∙ sym long;
      inside = omega (arith, long, inside);
      room = omega (arith, c.push_reserved.ensures.capacity, inv.room);
      others = ap (λ (k : ℕ). rising (λ (t : TheArgType). t) 0 (map arg_type_of (drop k arguments))) long ∙ sym rises ∙ inv.others;
      only = subst (λ (k : ℕ). OnlyOne (InTurn PackedArgumentAt (map arg_type_of (take k arguments)) c.args.tape.now) (map datum_of c.push_reserved.new.self.items) read.result.1.now) (sym long) more;
    }
