use Rattle.std.proofs.Common.{sym, subst}
use Rattle.fl_world_refines.specs.View.{TheWorld}
use Rattle.fl_world_refines.specs.Apart.{AllUnused}
use Rattle.fl_world.proofs.world.World.into_parts.Goals as goal

pub returns-clause-unused : goal.returns-clause-unused
returns-clause-unused c = subst (λ (w : TheWorld). AllUnused w.rings) (sym c.self.view_is) c.requires.unused
