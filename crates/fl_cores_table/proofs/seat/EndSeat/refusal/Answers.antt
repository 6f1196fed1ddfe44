use Rattle.std.proofs.Common.{rules, ◌≡◌, ◌+◌, ◌<◌, length, arith}
use Rattle.fl_cores_table.proofs.Steps.{allows_hear}
use Rattle.fl_cores_table.proofs.seat.EndSeat.refusal.Goals as goal

pub load-requires : goal.load-requires
load-requires c =
    let wide : c.deref.result.now.shared.table_id.words ≡ length c.deref.result.now.shared.key.owners.items + 1 = search rules in
    let within : c.args.job < length c.deref.result.now.shared.key.owners.items = search rules in
    (search rules, omega (arith, wide, within), allows_hear _ _ _ _ _ _ (search rules) within)
