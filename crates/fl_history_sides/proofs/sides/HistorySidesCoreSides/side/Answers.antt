use Rattle.std.proofs.Common.{refl, ◌∙◌}
use Rattle.fl_history_sides.proofs.Made.{lends_so}
use Rattle.fl_history_sides.proofs.sides.HistorySidesCoreSides.side.Goals as goal

pub returns : goal.returns
returns c =
    let i = c.lent.inside in (
      (refl, λ w. rw c.in-Some.is refl),
      record {
        returned = tt;
        lent = lends_so c.args.self.now.lent c.in-Some.lent c.args.n (record { core = i.core; sides = i.sides.items; at = i.at }) c.in-Some.is c.requires (c.lent.view_is ∙ c.in-Some.lent-is);
      },
    )
