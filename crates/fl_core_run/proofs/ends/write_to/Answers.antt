use Rattle.fl_core_run.specs.Run.{run_by}
use Rattle.fl_core_run.proofs.Writing.{over_queue, over_ring}
use Rattle.fl_core_run.proofs.ends.write_to.Goals as goal

pub returns-in-Queue : goal.returns-in-Queue
returns-in-Queue g c = record {
  wrote = over_queue g.S.CoreSides.ways c.args.e c.in-Queue.n c.args.outlet c.write.result
      (run_by g.S.CoreSides.states c.args.run.now) c.write.new.self c.index_mut.result.now c.write.new.out c.in-Queue.is c.requires.lent
      c.index_mut.ensures.value c.write.ensures.writes;
}

pub returns-in-Side : goal.returns-in-Side
returns-in-Side g c = record {
  wrote = over_ring g.S.CoreSides.ways c.args.e c.in-Side.n c.args.outlet c.write-in-Side.result
      (run_by g.S.CoreSides.states c.args.run.now) c.write-in-Side.new.core (g.S.CoreSides.states c.write-in-Side.new.sides) c.in-Side.is c.write-in-Side.ensures.writes;
}
