use Rattle.std.proofs.Common.{rules, ◌≡◌, ◌+◌, ◌<◌, length, arith}
use Rattle.fl_cores_table.proofs.Steps.{joins}
use Rattle.fl_cores_table.proofs.seat.EndSeat.join.Goals as goal

pub join_seat-requires : goal.join_seat-requires
join_seat-requires c =
    let wide : c.deref.result.now.shared.table_id.words ≡ length c.deref.result.now.shared.key.owners.items + 1 = search rules in
    (search rules, search rules, search rules, omega (arith, wide), joins _ _ _ _ _ _)
