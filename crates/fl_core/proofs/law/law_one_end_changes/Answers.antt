use Rattle.std.proofs.Common.{ap, List}
use Rattle.fl_core.specs.BoardView.{TheEndAtChannel, TheBoard}
use Rattle.fl_core.proofs.BoardPlaces.{set_here, set_elsewhere, set_same}
use Rattle.fl_core.proofs.law.law_one_end_changes.Goals as goal

pub returns : goal.returns
returns c = record {
  others = λ k e f s t ne. set_elsewhere k.seats e f (record s { end = t }) ne;
  there = λ k e s t at. set_here k.seats e s (record s { end = t }) at;
  same = λ k e s at. ap (λ (x : List TheEndAtChannel). let y : TheBoard = record { dispatchers = k.dispatchers; seats = x } in y) (set_same k.seats e s at);
}
