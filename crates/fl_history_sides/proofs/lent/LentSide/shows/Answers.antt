use Rattle.std.proofs.Common.{subst}
use Rattle.fl_history_sides.specs.Lent.{TheLent, states_of}
use Rattle.fl_history_sides.specs.Core.{AreSidesOf}
use Rattle.fl_history_sides.proofs.Made.{sides_shown}
use Rattle.fl_history_sides.proofs.lent.LentSide.shows.Goals as goal

pub returns : goal.returns
returns c =
    let i = c.self.inside in
    record { one = subst (λ (s : TheLent). AreSidesOf s.core (states_of s)) c.self.view_is (sides_shown i.core i.sides.items i.at c.self.invariant) }
