use Rattle.std.proofs.Common.{◌<◌, ap, subst, ◌∙◌, sym}
use Rattle.fl_history_rings.specs.declared.board.RingsBoard.{RingsBoard}
use Rattle.fl_history_rings.specs.Rule.{seat_of}
use Rattle.fl_history_rings.specs.Cores.{TheGathering, InOneOrder}
use Rattle.fl_history_rings.proofs.Allowed.{allows_compare}
use Rattle.fl_history_rings.proofs.Cores.{some_first, settled, kept_gathering, kept_shown}
use Rattle.fl_history_rings.proofs.gathering.Gathering.settle.Goals as goal

pub load-requires : goal.load-requires
load-requires c =
    let seat = c.self.inside.seat in
    let first = some_first seat.me.0.cores c.self.invariant.some_core in (
      c.self.invariant.same ∙ ap (λ (b : RingsBoard). b.table.shared.table_id) (sym c.deref.ensures),
      subst (λ (b : RingsBoard). 0 < b.table.shared.table_id.words) (sym c.deref.ensures) c.self.invariant.some_words,
      allows_compare _ _ _ _ first.0 first.1 seat.me (ap seat_of first.2),
    )

pub invariant_of-self : goal.invariant_of-self
invariant_of-self c = kept_gathering _ c.self.inside.seat c.load.new.seat c.self.invariant c.load.ensures.0 c.load.ensures.2.0

pub returns : goal.returns
returns c =
    let seat = c.self.inside.seat in
    record {
      same = kept_shown seat c.load.new.seat c.load.ensures.0 c.load.ensures.2.0 ∙ c.self.view_is;
      order = subst (λ (g : TheGathering). InOneOrder g.sides g.cores) c.self.view_is (settled _ seat.table_id seat.me.0.cores c.load.ensures.2.1);
    }
