use Rattle.fl_world_events.proofs.Queued.{client_on_queue, server_on_queue, not_added}
use Rattle.fl_world_events.proofs.by_queues.join.Goals as goal

pub add_both-requires : goal.add_both-requires
add_both-requires c = record {
  client = c.requires.may.client;
  server = c.requires.may.server;
  few = c.requires.may.few;
  new_client = c.requires.may.new.client;
  new_server = c.requires.may.new.server;
}

pub register_both-requires : goal.register_both-requires
register_both-requires c = record {
  client = client_on_queue c.args.both c.in-Ok.ends c.args.core.now c.add_both.new.self c.law_whole.ensures.whole c.in-Ok.ensures.joins;
  server = server_on_queue c.args.both c.in-Ok.ends c.args.core.now c.add_both.new.self c.law_whole.ensures.whole c.in-Ok.ensures.joins;
}

pub returns-in_default-clause-kept : goal.returns-in_default-clause-kept
returns-in_default-clause-kept c = not_added c.args.both c.args.core.now c.add_both.new.self c.in_default.field-0 c.in_default.ensures.joins

pub returns-clause-joins : goal.returns-clause-joins
returns-clause-joins c = record {
  whole = c.law_whole.ensures.whole;
  still = c.law_whole-2.ensures.whole;
  event = record { ends = c.in-Ok.ends; with_both = c.add_both.new.self; added = c.in-Ok.ensures.joins; listed = c.register_both.ensures.lists };
}
