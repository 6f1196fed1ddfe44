use Rattle.std.proofs.Common.{ℕ, ◌≡◌, ◌+◌, ◌<◌, ◌≤◌, ◌⊎◌, length, get_or}
use Rattle.fl_ring.proofs.slots.write_next.Given as goal

abbrev pub invariant-loop-k : goal.invariant-loop-k
invariant-loop-k l = record {
  same_length : length l.table ≡ length l.initial.table;
  seven : length l.stamped.words ≡ 7;
  written : (k : ℕ) → k < l.k → get_or l.table (l.slot + k) 0 ≡ get_or l.stamped.words k 0;
  others : (i : ℕ) → (i < l.slot) ⊎ (l.slot + 8 ≤ i) → get_or l.table i 0 ≡ get_or l.initial.table i 0;
}
