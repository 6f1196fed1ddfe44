use Rattle.std.proofs.Common.{refl}
use Rattle.fl_world.proofs.world.World.then_rules.Goals as goal

pub returns-in-Opened : goal.returns-in-Opened
returns-in-Opened c = record { rules = rw c.in-Opened.is c.bring_rules.ensures.brings }

pub returns-in-Full : goal.returns-in-Full
returns-in-Full c = record { rules = rw c.in-Full.is refl }

pub returns-in-Done : goal.returns-in-Done
returns-in-Done c = record { rules = rw c.in-Done.is refl }

pub returns-in-OpeningRefused : goal.returns-in-OpeningRefused
returns-in-OpeningRefused c = record { rules = rw c.in-OpeningRefused.is refl }
