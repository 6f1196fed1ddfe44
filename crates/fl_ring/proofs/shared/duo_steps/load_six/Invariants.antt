use Rattle.std.proofs.Common.{◌≡◌, length, take}
use Rattle.fl_ring.specs.SharedDuo.{with_mine}
use Rattle.fl_ring.specs.SharedSides.{side_with_words}
use Rattle.fl_ring.proofs.shared.duo_steps.load_six.Given as goal

-- the first k words are loaded
abbrev pub invariant-loop-k : goal.invariant-loop-k
invariant-loop-k l = record {
  table : l.seat.table_id ≡ l.initial.seat.table_id;
  loaded : l.seat.me ≡ (with_mine l.initial.seat.me.0 (side_with_words l.initial.seat.me.0.mine (take l.k l.words)), l.initial.seat.me.1);
  seven : length l.words ≡ 7;
}
