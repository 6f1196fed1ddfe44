use Rattle.fl_core.specs.Ends.{at_side}
use Rattle.fl_core.specs.Links.{inbound, ArrivesAt}
use Rattle.fl_core_run.specs.Run.{run_by}
use Rattle.fl_core_run.proofs.Sides.{on_ring}
use Rattle.fl_core_run.proofs.links.arrive.Goals as goal

pub arrive-requires-clause-side : goal.arrive-requires-clause-side
arrive-requires-clause-side g c = c.requires.side

pub arrive-requires-clause-link : goal.arrive-requires-clause-link
arrive-requires-clause-link g c = c.requires.link

pub arrive-requires-clause-seen : goal.arrive-requires-clause-seen
arrive-requires-clause-seen g c = c.requires.seen

pub arrive-requires-clause-call : goal.arrive-requires-clause-call
arrive-requires-clause-call g c = c.requires.call

pub returns : goal.returns
returns g c = record {
  arrived = on_ring (run_by g.S.CoreSides.states c.args.run.now) c.args.n (g.S.CoreSides.states c.arrive.new.sides)
      (λ k p k2 q. ArrivesAt g.S.CoreSides.ways.takes (inbound c.args.link.0 c.args.frag.now c.args.end) (at_side k p) c.arrive.result (at_side k2 q))
      c.arrive.new.core c.arrive.ensures.arrives;
}
