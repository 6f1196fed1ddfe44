use Rattle.std.proofs.Common.{map}
use Rattle.fl_cores_fork.specs.Runs.{seats_left}
use Rattle.fl_cores_fork.specs.CoreThreads.{outcome_of}
use Rattle.fl_cores_parts.proofs.Together.{rest_all, rest_heard}
use Rattle.fl_cores_parts.proofs.gathering.gather.Goals as goal

pub ask_all-requires-clause-all : goal.ask_all-requires-clause-all
ask_all-requires-clause-all c =
    rest_all c.args.own c.take_apart.new.own c.args.jobs (seats_left (map outcome_of c.args.done.items)) c.requires.rest c.in_ok-hands.ensures.all_in

pub returns-clause-heard : goal.returns-clause-heard
returns-clause-heard c =
    rest_heard c.args.own c.take_apart.new.own c.args.jobs (seats_left (map outcome_of c.args.done.items)) c.requires.rest c.in_ok-hands.ensures.all_in
    c.ask_all.ensures.agree
