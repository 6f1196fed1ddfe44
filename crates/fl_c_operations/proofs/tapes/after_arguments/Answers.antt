use Rattle.std.proofs.Common.{map, arith}
use Rattle.fl_interface.specs.Interface.{arg_type_of}
use Rattle.fl_c_operations.specs.After.{after_ranks}
use Rattle.fl_c_operations.proofs.After.{ranks_turn, ranks_stop, ranks_end}
use Rattle.fl_c_operations.proofs.tapes.after_arguments.Goals as goal

pub loop-rank-preserved : goal.loop-rank-preserved
loop-rank-preserved c =
    let types = map arg_type_of c.args.arguments.now in
    ranks_turn c.args.plan types c.loop-rank.rank c.loop-rank.rest.now c.in-Some.next.now (after_ranks c.args.plan 5 0 types c.args.tape.now)
    (omega (arith, c.loop-rank-test.true)) c.in-Some.ensures.exact c.loop-rank.invariant

pub returns-in_default : goal.returns-in_default
returns-in_default c =
    let types = map arg_type_of c.args.arguments.now in
    record {
      exact = ranks_stop c.args.plan types c.loop-rank.rank c.loop-rank.rest.now (after_ranks c.args.plan 5 0 types c.args.tape.now)
          (omega (arith, c.loop-rank-test.true)) c.in_default.ensures.exact c.loop-rank.invariant;
    }

pub returns : goal.returns
returns c =
    let types = map arg_type_of c.args.arguments.now in
    record {
      exact = ranks_end c.args.plan types c.loop-rank.rank c.loop-rank.rest.now (after_ranks c.args.plan 5 0 types c.args.tape.now)
          (omega (arith, c.loop-rank-test.false)) c.loop-rank.invariant;
    }
