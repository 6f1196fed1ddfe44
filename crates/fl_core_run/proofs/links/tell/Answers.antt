use Rattle.std.proofs.Common.{refl, subst, ℕ, Option}
use Rattle.fl_core_run.specs.Run.{run_by}
use Rattle.fl_core_run.specs.Steps.{TellsOver}
use Rattle.fl_core_run.proofs.Crossing.{told}
use Rattle.fl_core_run.proofs.links.tell.Goals as goal

pub tell-requires-clause-link : goal.tell-requires-clause-link
tell-requires-clause-link g c = c.in-Some.ensures.link

pub returns-in-None : goal.returns-in-None
returns-in-None g c = record { tells = subst (λ (o : Option ℕ). TellsOver g.S.CoreSides.ways c.args.link o (run_by g.S.CoreSides.states c.args.run.now) (run_by g.S.CoreSides.states c.args.run.now)) c.in-None.ensures.link_side refl }

pub returns-in-Some : goal.returns-in-Some
returns-in-Some g c = record {
  tells = told g.S.CoreSides.ways (run_by g.S.CoreSides.states c.args.run.now) c.in-Some.n (g.S.CoreSides.states c.tell.new.sides)
      c.law_sound.ensures.sound c.law_sound.ensures.whole c.args.link c.tell.result c.in-Some.ensures.link_side c.tell.ensures.tells;
}
