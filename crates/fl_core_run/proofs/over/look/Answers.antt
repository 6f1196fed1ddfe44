use Rattle.fl_core_run.proofs.States.{looked_so, over_side}
use Rattle.fl_core_run.proofs.over.look.Goals as goal

pub look-requires : goal.look-requires
look-requires g c = c.requires.link

pub returns : goal.returns
returns g c = record {
  looks = over_side g.S.CoreSides.states g.S.CoreSides.state_of g.S.CoreSides.rest_of g.S.CoreSides.lends g.S.CoreSides.returned
      g.met.S.CoreSides.stands g.met.S.CoreSides.gives_back c.args.sides.now c.args.n _ _ _ c.side.ensures.lent
      (looked_so _ g.S.CoreSides.ways.takes g.S.CoreSides.state_of g.S.CoreSides.rest_of g.met.S.CoreSides.takes_are _ g.S.CoreSides.ways.front g.met.S.CoreSides.front_is
      c.args.link.0 c.args.core.now _ c.look.result c.look.new.self _ c.look.ensures.looks);
}
