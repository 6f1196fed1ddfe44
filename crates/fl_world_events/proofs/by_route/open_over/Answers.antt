use Rattle.fl_world_events.proofs.Last.{answered_over, always}
use Rattle.fl_world_events.proofs.by_route.open_over.Goals as goal

pub returns-in-Some : goal.returns-in-Some
returns-in-Some c = record {
  opens = answered_over c.args.program.now c.args.between c.args.link c.args.opening.now _ c.args.cores.now c.args.bindings.now.items c.requires.client c.in-Some.ensures.answer;
  kept = tt;
  same = tt;
  last = tt;
}

pub returns-in-None-clause-opens : goal.returns-in-None-clause-opens
returns-in-None-clause-opens c = c.open_both.ensures.opens

pub returns-in-None-clause-kept : goal.returns-in-None-clause-kept
returns-in-None-clause-kept c = c.open_both.ensures.kept

pub returns-in-None-clause-same : goal.returns-in-None-clause-same
returns-in-None-clause-same c = c.open_both.ensures.same

pub returns-in-None-clause-last : goal.returns-in-None-clause-last
returns-in-None-clause-last c = always c.open_both.result c.in-None.ensures.may
