use Rattle.fl_core_run.proofs.States.{said_so, over_side}
use Rattle.fl_core_run.proofs.over.say.Goals as goal

pub returns : goal.returns
returns g c = record {
  writes = over_side g.S.CoreSides.states g.S.CoreSides.state_of g.S.CoreSides.rest_of g.S.CoreSides.lends g.S.CoreSides.returned
      g.met.S.CoreSides.stands g.met.S.CoreSides.gives_back c.args.sides.now c.args.n _ _ _ c.side.ensures.lent
      (said_so _ g.S.CoreSides.ways.puts g.S.CoreSides.state_of g.S.CoreSides.rest_of g.met.S.CoreSides.puts_are c.args.link.0 c.args.core.now _ c.monitor_write.result c.monitor_write.new.self _ c.monitor_write.ensures.writes);
}
