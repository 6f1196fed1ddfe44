use Rattle.std.proofs.Common.{rules, ◌≡◌, ◌+◌, ◌<◌, length, arith}
use Rattle.fl_cores_table.proofs.Steps.{allows_finish}
use Rattle.fl_cores_table.proofs.seat.EndSeat.finish.Goals as goal

pub fetch_add-requires : goal.fetch_add-requires
fetch_add-requires c =
    let wide : c.deref.result.now.shared.table_id.words ≡ length c.deref.result.now.shared.key.owners.items + 1 = search rules in
    (search rules, omega (arith, wide), allows_finish _ _ _ _ _ (search rules))
