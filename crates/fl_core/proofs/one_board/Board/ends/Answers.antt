use Rattle.std.proofs.Common.{length, sym, ap, ◌∙◌}
use Rattle.fl_core.specs.BoardView.{TheBoard}
use Rattle.fl_core.proofs.Together.{as_many}
use Rattle.fl_core.proofs.one_board.Board.ends.Goals as goal

pub returns : goal.returns
returns c =
    record {
      ends = c.len.ensures ∙ c.self.inside.seats.ok.0 ∙ sym (as_many c.self.inside.seats.items c.self.inside.calls c.self.invariant.together) ∙ ap (λ (x : TheBoard). length x.seats) c.self.view_is;
    }
