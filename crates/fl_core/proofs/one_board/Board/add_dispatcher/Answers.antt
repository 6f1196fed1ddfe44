use Rattle.std.proofs.Common.{◌∙◌, sym, ap, subst, List, ◌++◌, ◌∷◌, []}
use Rattle.fl_core.specs.BoardView.{TheDispatcher}
use Rattle.fl_core.specs.BoardSound.{IsBoard}
use Rattle.fl_core.specs.BoardInside.{board_of}
use Rattle.fl_core.proofs.BoardKept.{dispatcher_kept}
use Rattle.fl_core.proofs.one_board.Board.add_dispatcher.Goals as goal

pub invariant_of-self-2 : goal.invariant_of-self-2
invariant_of-self-2 c =
    let added = c.in-Ok.ensures.items ∙ ap (λ (d : TheDispatcher). c.self.inside.dispatchers.items ++ d ∷ []) c.in_ok-dispatcher.ensures.made in
    record {
      board = subst (λ (ds : List TheDispatcher). IsBoard (board_of ds c.self.inside.seats.items c.self.inside.calls)) (sym added) (dispatcher_kept _ c.self.invariant.board);
      together = c.self.invariant.together;
    }
