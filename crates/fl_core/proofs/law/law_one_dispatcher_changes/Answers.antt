use Rattle.std.proofs.Common.{ap, List}
use Rattle.fl_core.specs.BoardView.{TheDispatcher, TheBoard}
use Rattle.fl_core.proofs.BoardPlaces.{set_here, set_elsewhere, set_same}
use Rattle.fl_core.proofs.law.law_one_dispatcher_changes.Goals as goal

pub returns : goal.returns
returns c = record {
  others = λ k n m d w ne. set_elsewhere k.dispatchers n m (record d { lists = w }) ne;
  there = λ k n d w at. set_here k.dispatchers n d (record d { lists = w }) at;
  same = λ k n d at. ap (λ (x : List TheDispatcher). let y : TheBoard = record { dispatchers = x; seats = k.seats } in y) (set_same k.dispatchers n d at);
}
