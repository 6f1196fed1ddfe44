use Rattle.std.proofs.Common.{map, refl, arith}
use Rattle.fl_interface.specs.Interface.{arg_type_of}
use Rattle.fl_c_operations.specs.After.{after_all, after_ranked}
use Rattle.fl_c_operations.proofs.After.{all_turn, all_stop, all_end}
use Rattle.fl_c_operations.proofs.tapes.after_rank.Goals as goal

pub loop-argument-preserved : goal.loop-argument-preserved
loop-argument-preserved c =
    all_turn (after_all (after_ranked c.args.plan c.args.rank)) (after_ranked c.args.plan c.args.rank) (λ y ys tape. refl) arg_type_of c.args.arguments.now
    c.loop-argument.argument-index c.argument-item.result c.loop-argument.rest.now c.in-Some.next.now
    (after_all (after_ranked c.args.plan c.args.rank) (map arg_type_of c.args.arguments.now) c.args.tape.now) c.loop-argument-test.true c.argument-item.is
    c.in-Some.ensures.exact c.loop-argument.invariant

pub returns-in_default : goal.returns-in_default
returns-in_default c = record {
  exact = all_stop (after_all (after_ranked c.args.plan c.args.rank)) (after_ranked c.args.plan c.args.rank) (λ y ys tape. refl) arg_type_of c.args.arguments.now
      c.loop-argument.argument-index c.argument-item.result c.loop-argument.rest.now
      (after_all (after_ranked c.args.plan c.args.rank) (map arg_type_of c.args.arguments.now) c.args.tape.now) c.loop-argument-test.true c.argument-item.is
      c.in_default.ensures.exact c.loop-argument.invariant;
}

pub returns : goal.returns
returns c = record {
  exact = all_end (after_all (after_ranked c.args.plan c.args.rank)) (λ tape. refl) arg_type_of c.args.arguments.now c.loop-argument.argument-index c.loop-argument.rest.now
      (after_all (after_ranked c.args.plan c.args.rank) (map arg_type_of c.args.arguments.now) c.args.tape.now) (omega (arith, c.loop-argument-test.false)) c.loop-argument.invariant;
}
