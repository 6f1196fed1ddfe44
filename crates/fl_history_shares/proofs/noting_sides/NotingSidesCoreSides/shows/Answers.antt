use Rattle.std.proofs.Common.{Option, subst, sym}
use Rattle.fl_history_sides.specs.Core.{AreOfOneCore}
use Rattle.fl_history_sides.specs.Lent.{TheLent, states_in, states_of}
use Rattle.fl_history_sides.proofs.Made.{none_shown}
use Rattle.fl_history_shares.proofs.noting_sides.NotingSidesCoreSides.shows.Goals as goal

pub returns-in-Some : goal.returns-in-Some
returns-in-Some c = record {
  whole = subst (λ (o : Option TheLent). AreOfOneCore (states_in o)) (sym c.in-Some.is)
      (subst (λ (l : TheLent). AreOfOneCore (states_of l)) c.noting.view_is (c.noting.inside.lent.core, c.shows.ensures.one));
}

pub returns-in_default : goal.returns-in_default
returns-in_default c = record { whole = subst (λ (o : Option TheLent). AreOfOneCore (states_in o)) (sym c.in_default.is) none_shown }
