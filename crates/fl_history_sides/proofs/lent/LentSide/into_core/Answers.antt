use Rattle.std.proofs.Common.{◌<◌, length, subst}
use Rattle.std.specs.List.{AllByRecursion}
use Rattle.fl_history_sides.specs.Lent.{TheLent, states_of}
use Rattle.fl_history_sides.specs.Core.{AreSidesOf, IsOwnSide}
use Rattle.fl_history_sides.proofs.Near.{all_own}
use Rattle.fl_history_sides.proofs.Made.{sides_shown, some_states}
use Rattle.fl_history_sides.proofs.lent.LentSide.into_core.Goals as goal

pub returns : goal.returns
returns c =
    let i = c.self.inside in
    record {
      some = subst (λ (s : TheLent). 0 < length (states_of s)) c.self.view_is (some_states i.core i.sides.items i.at c.self.invariant);
      core = subst (λ (s : TheLent). AreSidesOf i.core (states_of s)) c.self.view_is (sides_shown i.core i.sides.items i.at c.self.invariant);
      own = subst (λ (s : TheLent). AllByRecursion (IsOwnSide i.core) (states_of s)) c.self.view_is (all_own i.core i.sides.items c.self.invariant.mine);
    }
