use Rattle.std.proofs.Common.{ℕ, ◌≡◌, ◌≢◌, ◌*◌, ◌+◌, ◌<◌, ◌≤◌, length}
use Rattle.fl_link.specs.Cursor.{epoch_at}
use Rattle.fl_ring.specs.Way.{epoch_in, IsClear}
use Rattle.fl_ring.proofs.shared.duo_making.mark.Given as goal

-- the slots of k indexes have the other epoch
abbrev pub invariant-loop-k : goal.invariant-loop-k
invariant-loop-k l = record {
  wide : length l.words.items ≡ 16 * l.size;
  index : l.next.index ≡ l.start + l.k;
  size : l.next.size ≡ l.size;
  free : (i : ℕ) → l.start ≤ i → i < l.start + l.k → (epoch_in 0 l.size l.words.items i ≢ epoch_at l.size i) × (epoch_in (8 * l.size) l.size l.words.items i ≢ epoch_at l.size i);
  clear : IsClear 0 l.size l.words.items l.start × IsClear (8 * l.size) l.size l.words.items l.start;
}
