use Rattle.std.proofs.Common.{◌≡◌, take}
use Rattle.fl_ring.specs.SharedRing.{with_writing}
use Rattle.fl_ring.specs.SharedSeats.{with_part}
use Rattle.fl_ring.proofs.shared.writes.store_payload.Given as goal

-- the first k words stand there
abbrev pub invariant-loop-k : goal.invariant-loop-k
invariant-loop-k l = record {
  table : l.seat.table_id ≡ l.initial.seat.table_id;
  stored : l.seat.me ≡ (with_writing l.initial.seat.me.0 (with_part l.initial.seat.me.0.put (take l.k l.words)), l.initial.seat.me.1);
}
