use Rattle.std.proofs.Common.{◌≡◌, take}
use Rattle.fl_history_rings.specs.Rule.{alone, knowing}
use Rattle.fl_history_rings.specs.Seats.{view_at, put_insight}
use Rattle.fl_history_rings.proofs.steps.store_payload.Given as goal

-- the first k words stand there
abbrev pub invariant-loop-k : goal.invariant-loop-k
invariant-loop-k l = record {
  table : l.seat.table_id ≡ l.initial.seat.table_id;
  stored : l.seat.me ≡ alone (knowing (view_at l.initial.seat) (put_insight l.place.side (take l.k l.words)));
}
