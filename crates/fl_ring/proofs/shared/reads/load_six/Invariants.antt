use Rattle.std.proofs.Common.{◌≡◌, length, take}
use Rattle.fl_ring.specs.SharedRing.{with_reading}
use Rattle.fl_ring.specs.SharedSeats.{with_words}
use Rattle.fl_ring.proofs.shared.reads.load_six.Given as goal

-- the first k words are loaded
abbrev pub invariant-loop-k : goal.invariant-loop-k
invariant-loop-k l = record {
  table : l.seat.table_id ≡ l.initial.seat.table_id;
  loaded : l.seat.me ≡ (with_reading l.initial.seat.me.0 (with_words l.initial.seat.me.0.take (take l.k l.words)), l.initial.seat.me.1);
  seven : length l.words ≡ 7;
}
