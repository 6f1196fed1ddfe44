use Rattle.std.proofs.Common.{◌+◌, ◌++◌, ◌∷◌, [], ◌∙◌, length, sym, ap, arith}
use Rattle.std.proofs.lemmas.Bool.{false≢true}
use Rattle.fl_interface.specs.Interface.{arg_type_of}
use Rattle.fl_codec.proofs.Kept.{number_at, left, left_here, left_past, left_none, goes_self, goes_far, goes_along, room_left}
use Rattle.fl_codec.proofs.placing.Placing.push_rank.Goals as goal

pub loop-argument-init : goal.loop-argument-init
loop-argument-init c = (c.requires.sound, λ behind. goes_self c.args.self.now (left c.args.plan c.args.rank c.args.arguments.now 0 ++ behind))

pub unreachable-requires : goal.unreachable-requires
unreachable-requires c =
    false≢true (sym c.in_default.ensures.none ∙ number_at c.args.arguments.now c.loop-argument.argument-index c.argument-item.result c.loop-argument-test.true c.argument-item.is c.requires.numbers)

pub push-requires : goal.push-requires
push-requires c =
    let args = c.args.arguments.now in
    let k = c.loop-argument.argument-index in
    let here = left_here c.args.plan c.args.rank args k c.argument-item.result c.loop-argument-test.true c.argument-item.is (sym c.rank_of.ensures.same ∙ c.if-rank_of-rank.false) in
    let room = room_left c.args.self.now c.loop-argument.self (left c.args.plan c.args.rank args 0) (left c.args.plan c.args.rank args k) (c.loop-argument.invariant.1 []) c.requires.room in
    record {
      sound = c.loop-argument.invariant.0;
      room = omega (arith, room, ap length here);
      number = (arg_type_of c.argument-item.result, c.in-Some.ensures.some);
    }

pub loop-argument-preserved-then-rank_of-rank : goal.loop-argument-preserved-then-rank_of-rank
loop-argument-preserved-then-rank_of-rank c =
    let args = c.args.arguments.now in
    let k = c.loop-argument.argument-index in
    let past = left_past c.args.plan c.args.rank args k c.argument-item.result c.loop-argument-test.true c.argument-item.is (λ e. c.if-rank_of-rank.true (c.rank_of.ensures.same ∙ e)) in
    (c.loop-argument.invariant.0, λ behind. goes_along c.args.self.now c.loop-argument.self _ _ _ behind past (c.loop-argument.invariant.1 behind))

pub loop-argument-preserved : goal.loop-argument-preserved
loop-argument-preserved c =
    let args = c.args.arguments.now in
    let k = c.loop-argument.argument-index in
    let t = arg_type_of c.argument-item.result in
    let rest = left c.args.plan c.args.rank args (k + 1) in
    let here = left_here c.args.plan c.args.rank args k c.argument-item.result c.loop-argument-test.true c.argument-item.is (sym c.rank_of.ensures.same ∙ c.if-rank_of-rank.false) in (
      c.push.ensures.sound,
      λ behind.
          goes_far c.args.self.now c.loop-argument.self c.push.new.self (left c.args.plan c.args.rank args 0 ++ behind) (t ∷ (rest ++ behind)) (rest ++ behind)
          (goes_along c.args.self.now c.loop-argument.self (left c.args.plan c.args.rank args 0 ++ behind) (left c.args.plan c.args.rank args k) (t ∷ rest) behind here (c.loop-argument.invariant.1 behind))
          (c.push.ensures.goes_on t (rest ++ behind) c.in-Some.ensures.some),
    )

pub returns : goal.returns
returns c =
    let args = c.args.arguments.now in
    let k = c.loop-argument.argument-index in
    let none = left_none c.args.plan c.args.rank args k c.loop-argument-test.false in
    record {
      sound = c.loop-argument.invariant.0;
      goes_on = λ behind.
          goes_along c.args.self.now c.loop-argument.self (left c.args.plan c.args.rank args 0 ++ behind) (left c.args.plan c.args.rank args k) [] behind none (c.loop-argument.invariant.1 behind);
    }
