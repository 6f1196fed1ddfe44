use Rattle.std.proofs.Common.{refl, subst, ℕ, Option}
use Rattle.fl_core_run.specs.Run.{run_by}
use Rattle.fl_core_run.specs.Steps.{SaysOver}
use Rattle.fl_core_run.proofs.Crossing.{said}
use Rattle.fl_core_run.proofs.links.say.Goals as goal

pub returns-in-None : goal.returns-in-None
returns-in-None g c = record { says = subst (λ (o : Option ℕ). SaysOver g.S.CoreSides.ways c.args.link o (run_by g.S.CoreSides.states c.args.run.now) (run_by g.S.CoreSides.states c.args.run.now)) c.in-None.ensures.link_side refl }

pub returns-in-Some : goal.returns-in-Some
returns-in-Some g c = record {
  says = said g.S.CoreSides.ways (run_by g.S.CoreSides.states c.args.run.now) c.in-Some.n (g.S.CoreSides.states c.say.new.sides)
      c.law_sound.ensures.sound c.law_sound.ensures.whole c.args.link c.say.new.core c.say.result c.in-Some.ensures.link_side c.say.ensures.writes;
}
