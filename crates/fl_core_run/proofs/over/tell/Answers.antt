use Rattle.fl_core_run.proofs.States.{told_so, over_side}
use Rattle.fl_core_run.proofs.over.tell.Goals as goal

pub returns : goal.returns
returns g c = record {
  tells = over_side g.S.CoreSides.states g.S.CoreSides.state_of g.S.CoreSides.rest_of g.S.CoreSides.lends g.S.CoreSides.returned
      g.met.S.CoreSides.stands g.met.S.CoreSides.gives_back c.args.sides.now c.args.n _ _ _ c.side.ensures.lent
      (told_so _ g.S.CoreSides.ways.takes g.S.CoreSides.state_of g.S.CoreSides.rest_of g.met.S.CoreSides.takes_are _ c.monitor_ack.result _ c.monitor_ack.ensures.acks);
}
