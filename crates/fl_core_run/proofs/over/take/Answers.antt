use Rattle.fl_base.specs.Control.{bare}
use Rattle.fl_core_run.proofs.States.{over_side}
use Rattle.fl_link.specs.Looks.{Look, found}
use Rattle.std.proofs.Common.{◌∙◌, subst}
use Rattle.fl_core_run.proofs.over.take.Goals as goal

pub returns : goal.returns
returns g c =
    let first = g.met.S.CoreSides.front_is c.side.result.now ∙ c.requires.seen _ (g.met.S.CoreSides.stands c.args.sides.now c.args.n c.side.result.now c.side.ensures.lent) in
    record {
      takes = over_side g.S.CoreSides.states g.S.CoreSides.state_of g.S.CoreSides.rest_of g.S.CoreSides.lends g.S.CoreSides.returned
          g.met.S.CoreSides.stands g.met.S.CoreSides.gives_back c.args.sides.now c.args.n _ _ _ c.side.ensures.lent
          (g.met.S.CoreSides.takes_are _ (found (bare c.args.frag.now)) _
          (subst (λ (look : Look). g.S.Lent.TakeSide.takes c.side.result.now look c.take.new.self) (c.take.ensures.«data» _ first) c.take.ensures.look));
    }
