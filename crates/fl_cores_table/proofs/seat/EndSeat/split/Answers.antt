use Rattle.std.proofs.Common.{rules, ◌≡◌, ◌+◌, ◌<◌, length, arith}
use Rattle.fl_cores_table.proofs.Steps.{splits}
use Rattle.fl_cores_table.proofs.seat.EndSeat.split.Goals as goal

pub split_seat-seat-requires : goal.split_seat-seat-requires
split_seat-seat-requires c =
    let wide : c.deref.result.now.shared.table_id.words ≡ length c.deref.result.now.shared.key.owners.items + 1 = search rules in
    (search rules, omega (arith, wide), splits _ _ _ _ (search rules) (search rules) (search rules) (search rules))
