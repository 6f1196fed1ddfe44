use Rattle.fl_core_run.proofs.States.{heard_so, over_side}
use Rattle.std.proofs.Common.{◌∙◌}
use Rattle.fl_core_run.proofs.over.hear.Goals as goal

pub hear-requires-clause-there : goal.hear-requires-clause-there
hear-requires-clause-there g c = c.requires.link

pub hear-requires-clause-seen : goal.hear-requires-clause-seen
hear-requires-clause-seen g c = g.met.S.CoreSides.front_is c.side.result.now ∙ c.requires.seen _ (g.met.S.CoreSides.stands c.args.sides.now c.args.n c.side.result.now c.side.ensures.lent)

pub returns-clause-takes : goal.returns-clause-takes
returns-clause-takes g c = over_side g.S.CoreSides.states g.S.CoreSides.state_of g.S.CoreSides.rest_of g.S.CoreSides.lends g.S.CoreSides.returned
    g.met.S.CoreSides.stands g.met.S.CoreSides.gives_back c.args.sides.now c.args.n _ _ _ c.side.ensures.lent
    (heard_so _ g.S.CoreSides.ways.takes g.S.CoreSides.state_of g.S.CoreSides.rest_of g.met.S.CoreSides.takes_are c.args.frag.now _ c.hear.result _ c.hear.ensures.takes)
