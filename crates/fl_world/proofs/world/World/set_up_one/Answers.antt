use Rattle.std.proofs.Common.{sym, ap, ◌∙◌, refl, Bool, true, ◌&&◌}
use Rattle.std.specs.Prelude.{not}
use Rattle.fl_world.proofs.Runs.{by_none, by_some}
use Rattle.fl_world.proofs.Unused.{step_unused}
use Rattle.fl_world.proofs.world.World.set_up_one.Goals as goal

pub returns-in-Some-clause-stops : goal.returns-in-Some-clause-stops
returns-in-Some-clause-stops c = λ s h.
    ((c.in-Ok.ensures.agrees s h).answer ∙ by_some _ c.in-Some.number (sym c.fault_in.ensures.fault ∙ c.in-Some.is), refl)

pub returns-clause-passes : goal.returns-clause-passes
returns-clause-passes c = λ s h.
    let k = c.in-Ok.ensures.agrees s h in
    record { passed = ap (λ (b : Bool). not b && true) (by_none _ _ k.answer (sym c.fault_in.ensures.fault ∙ c.in-None.is)); shown = k.shows }

pub returns-clause-unused : goal.returns-clause-unused
returns-clause-unused c = step_unused _ _ _ _ c.in-Ok.ensures.steps
