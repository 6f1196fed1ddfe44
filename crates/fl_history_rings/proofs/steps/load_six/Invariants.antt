use Rattle.std.proofs.Common.{◌≡◌, length, take}
use Rattle.fl_history_rings.specs.declared.board.Insight.TheVariants.{Reading}
use Rattle.fl_history_rings.specs.Rule.{alone, knowing, control_in}
use Rattle.fl_history_rings.specs.Seats.{view_at}
use Rattle.fl_history_rings.proofs.steps.load_six.Given as goal

-- the first k words are loaded
abbrev pub invariant-loop-k : goal.invariant-loop-k
invariant-loop-k l = record {
  table : l.seat.table_id ≡ l.initial.seat.table_id;
  loaded : l.seat.me ≡ alone (knowing (view_at l.initial.seat) (Reading l.place.side (take l.k l.words) (control_in (view_at l.initial.seat).knows)));
  seven : length l.words ≡ 7;
}
