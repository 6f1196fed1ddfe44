use Rattle.std.proofs.Common.{rules, ◌≡◌, ◌+◌, ◌*◌, ap, arith, ℕ}
use Rattle.fl_ring.proofs.SharedSteps.{allows_told}
use Rattle.fl_ring.proofs.shared.rx.RingRx.tell.Goals as goal

pub store-requires : goal.store-requires
store-requires c =
    let inv = c.self.invariant in
    let seat = c.self.inside.seat in
    let wide : c.deref.result.now.shared.table_id.words ≡ 8 * seat.me.0.size + 8 = search rules in
    let size : c.size-word.result ≡ seat.me.0.size = search rules in
    (search rules, omega arith, allows_told _ _ _ _ _ _ (search rules) inv.1.reads (ap (λ (k : ℕ). 8 * k) size) (search rules))
