use Rattle.std.proofs.Common.{rules, ◌≡◌, ◌+◌, ◌<◌, length, arith}
use Rattle.fl_cores_table.specs.Counter.{MayTell}
use Rattle.fl_cores_table.proofs.Steps.{allows_tell}
use Rattle.fl_cores_table.proofs.seat.EndSeat.refuse.Goals as goal

pub store-requires : goal.store-requires
store-requires c =
    let wide : c.deref.result.now.shared.table_id.words ≡ length c.deref.result.now.shared.key.owners.items + 1 = search rules in
    let within : c.args.job < length c.deref.result.now.shared.key.owners.items = search rules in
    let may : MayTell c.self.inside.seat.me.0 c.args.job = search rules in
    (search rules, omega (arith, wide, within), allows_tell _ _ _ _ _ _ _ (search rules) may within)
