use Rattle.fl_core_run.proofs.States.{wrote_so, over_side}
use Rattle.fl_core_run.proofs.over.write.Goals as goal

pub write-requires : goal.write-requires
write-requires g c = c.requires.there

pub returns : goal.returns
returns g c = record {
  writes = over_side g.S.CoreSides.states g.S.CoreSides.state_of g.S.CoreSides.rest_of g.S.CoreSides.lends g.S.CoreSides.returned
      g.met.S.CoreSides.stands g.met.S.CoreSides.gives_back c.args.sides.now c.args.n _ _ _ c.side.ensures.lent
      (wrote_so _ g.S.CoreSides.ways.puts g.S.CoreSides.state_of g.S.CoreSides.rest_of g.met.S.CoreSides.puts_are c.args.e c.args.core.now _ c.write.result c.write.new.self _ c.write.ensures.writes);
}
