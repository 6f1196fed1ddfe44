use Rattle.std.proofs.Common.{map, ◌∙◌}
use Rattle.fl_value_data.specs.Value.{call_of}
use Rattle.fl_cores_jobs.specs.State.{joined_of}
use Rattle.fl_cores_fork.specs.CoreThreads.{outcome_of}
use Rattle.fl_cores_fork.proofs.Taking.{both_taken, both_rest}
use Rattle.fl_cores_fork.proofs.telling.both_handled.Goals as goal

pub returns-clause-handled : goal.returns-clause-handled
returns-clause-handled c =
    both_taken (joined_of c.args.joined.now) c.args.binding (map outcome_of c.args.done.now.items) (map outcome_of c.take_at-client.new.done.items)
    (map call_of c.take_at-client.result.items) (map call_of c.take_at-server.result.items) c.take_at-client.ensures.rest c.take_at-client.ensures.handled
    c.take_at-server.ensures.handled

pub returns-clause-rest : goal.returns-clause-rest
returns-clause-rest c =
    both_rest c.args.binding (map outcome_of c.args.done.now.items) (map outcome_of c.take_at-client.new.done.items)
    (map outcome_of c.take_at-server.new.done.items) c.take_at-client.ensures.rest c.take_at-server.ensures.rest

pub returns-clause-hands : goal.returns-clause-hands
returns-clause-hands c = c.take_at-server.ensures.hands ∙ c.take_at-client.ensures.hands
