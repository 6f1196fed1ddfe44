use Rattle.fl_core.specs.Links.{inbound}
use Rattle.fl_core_run.proofs.States.{arrived_so, over_side}
use Rattle.std.proofs.Common.{◌∙◌}
use Rattle.fl_core_run.proofs.over.arrive.Goals as goal

pub arrive-requires-clause-there : goal.arrive-requires-clause-there
arrive-requires-clause-there g c = c.requires.link

pub arrive-requires-clause-seen : goal.arrive-requires-clause-seen
arrive-requires-clause-seen g c = g.met.S.CoreSides.front_is c.side.result.now ∙ c.requires.seen _ (g.met.S.CoreSides.stands c.args.sides.now c.args.n c.side.result.now c.side.ensures.lent)

pub arrive-requires-clause-call : goal.arrive-requires-clause-call
arrive-requires-clause-call g c = c.requires.call

pub returns : goal.returns
returns g c = record {
  arrives = over_side g.S.CoreSides.states g.S.CoreSides.state_of g.S.CoreSides.rest_of g.S.CoreSides.lends g.S.CoreSides.returned
      g.met.S.CoreSides.stands g.met.S.CoreSides.gives_back c.args.sides.now c.args.n _ _ _ c.side.ensures.lent
      (arrived_so _ g.S.CoreSides.ways.takes g.S.CoreSides.state_of g.S.CoreSides.rest_of g.met.S.CoreSides.takes_are (inbound c.args.link.0 c.args.frag.now c.args.end) c.args.core.now _ c.arrive.result c.arrive.new.self _ c.arrive.ensures.arrives);
}
