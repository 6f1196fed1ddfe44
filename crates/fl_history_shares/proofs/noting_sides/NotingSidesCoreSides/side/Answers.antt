use Rattle.std.proofs.Common.{refl, subst, sym, ◌∙◌}
use Rattle.fl_history_sides.specs.Lent.{TheLent, Lends}
use Rattle.fl_history_sides.proofs.Made.{lends_so}
use Rattle.fl_history_shares.proofs.noting_sides.NotingSidesCoreSides.side.Goals as goal

pub returns : goal.returns
returns c = (
  (refl, λ w. rw c.in-Some.is refl),
  record {
    returned = tt;
    lent = subst (λ (t : TheLent). Lends c.args.self.now.lent c.args.n t) (sym c.lend.ensures.lent)
        (lends_so c.args.self.now.lent c.in-Some.noting c.args.n c.noting.inside.lent c.in-Some.is c.requires (c.noting.view_is ∙ c.in-Some.noting-is));
  },
)
