use Rattle.fl_core_run.proofs.Sides.{put_by}
use Rattle.fl_core_run.proofs.States.{over_side}
use Rattle.fl_core_run.specs.Inside.{put_label}
use Rattle.fl_core_run.proofs.over.put.Goals as goal

pub returns : goal.returns
returns g c = record {
  puts = over_side g.S.CoreSides.states g.S.CoreSides.state_of g.S.CoreSides.rest_of g.S.CoreSides.lends g.S.CoreSides.returned
      g.met.S.CoreSides.stands g.met.S.CoreSides.gives_back c.args.sides.now c.args.n _ _ _ c.side.ensures.lent
      (g.met.S.CoreSides.puts_are _ (put_label c.args.frag.now c.put.result) _
      (put_by g.S.Lent.PutSide.puts c.args.frag.now _ _ c.put.result c.put.ensures.placed c.put.ensures.full c.put.ensures.spent));
}
