use Rattle.std.proofs.Common.{◌+◌, map}
use Rattle.fl_value_data.specs.Value.{call_of}
use Rattle.fl_core.specs.View.{slot_of, client_of}
use Rattle.fl_cores_jobs.specs.State.{joined_of}
use Rattle.fl_cores_fork.specs.CoreThreads.{outcome_of}
use Rattle.fl_cores_fork.proofs.Moving.{places_kept, both_moved, both_keep}
use Rattle.fl_cores_fork.proofs.telling.both_made.Goals as goal

pub made_at-requires-2-clause-places : goal.made_at-requires-2-clause-places
made_at-requires-2-clause-places c =
    places_kept (slot_of (client_of c.args.binding) + 1) (joined_of c.args.joined.now).end_works c.args.jobs.now.items c.made_at.new.jobs.items c.requires.places
    c.in_ok-client.ensures.rest

pub returns-clause-made : goal.returns-clause-made
returns-clause-made c =
    both_moved (joined_of c.args.joined.now) (map outcome_of c.args.done.now) c.args.binding c.args.jobs.now.items c.made_at.new.jobs.items
    (map call_of c.in_ok-client.client.items) (map call_of c.in_ok-server.server.items) c.requires.places c.in_ok-client.ensures.rest
    c.in_ok-client.ensures.made c.in_ok-server.ensures.made

pub returns-clause-rest : goal.returns-clause-rest
returns-clause-rest c =
    both_keep c.args.binding c.args.jobs.now.items c.made_at.new.jobs.items c.made_at-2.new.jobs.items c.in_ok-client.ensures.rest c.in_ok-server.ensures.rest
