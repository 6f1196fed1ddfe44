use Rattle.std.proofs.Common.{rules, ◌≡◌, ◌+◌, ◌<◌, length, arith}
use Rattle.fl_cores_table.proofs.Steps.{allows_look}
use Rattle.fl_cores_table.proofs.seat.EndSeat.load_ended.Goals as goal

pub load-requires : goal.load-requires
load-requires c =
    let wide : c.deref.result.now.shared.table_id.words ≡ length c.deref.result.now.shared.key.owners.items + 1 = search rules in
    (search rules, omega (arith, wide), allows_look _ _ _ _ _ (search rules))
