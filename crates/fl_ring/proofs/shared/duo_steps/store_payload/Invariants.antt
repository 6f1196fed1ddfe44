use Rattle.std.proofs.Common.{◌≡◌, take}
use Rattle.fl_ring.specs.SharedDuo.{with_mine}
use Rattle.fl_ring.specs.SharedSides.{side_with_part}
use Rattle.fl_ring.proofs.shared.duo_steps.store_payload.Given as goal

-- the first k words stand there
abbrev pub invariant-loop-k : goal.invariant-loop-k
invariant-loop-k l = record {
  table : l.seat.table_id ≡ l.initial.seat.table_id;
  stored : l.seat.me ≡ (with_mine l.initial.seat.me.0 (side_with_part l.initial.seat.me.0.mine (take l.k l.words)), l.initial.seat.me.1);
}
