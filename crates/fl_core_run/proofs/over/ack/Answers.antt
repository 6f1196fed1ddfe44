use Rattle.fl_core_run.proofs.States.{acked_so, over_side}
use Rattle.fl_core_run.proofs.over.ack.Goals as goal

pub ack-requires-clause-there : goal.ack-requires-clause-there
ack-requires-clause-there g c = c.requires.there

pub ack-requires-clause-lent : goal.ack-requires-clause-lent
ack-requires-clause-lent g c = c.requires.lent

pub returns : goal.returns
returns g c = record {
  acks = over_side g.S.CoreSides.states g.S.CoreSides.state_of g.S.CoreSides.rest_of g.S.CoreSides.lends g.S.CoreSides.returned
      g.met.S.CoreSides.stands g.met.S.CoreSides.gives_back c.args.sides.now c.args.n _ _ _ c.side.ensures.lent
      (acked_so _ g.S.CoreSides.ways.takes g.S.CoreSides.state_of g.S.CoreSides.rest_of g.met.S.CoreSides.takes_are c.args.core.now.board c.args.e _ c.ack.result _ c.ack.ensures.acks);
}
