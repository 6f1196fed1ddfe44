use Rattle.std.proofs.Common.{◌*◌, sym, ap, arith, ℕ, rules}
use Rattle.fl_ring.proofs.SharedSteps.{allows_known}
use Rattle.fl_ring.proofs.shared.writes.has_room.Goals as goal

pub load-requires : goal.load-requires
load-requires c =
    let seated = c.requires.seated in
    (seated.same, omega (arith, seated.wide, c.requires.writer.size), allows_known _ _ _ _ c.args.seat.now.me seated.key_is c.requires.writer.writes (ap (λ (k : ℕ). 8 * k) (sym c.requires.writer.size)))

pub returns-then-index-known-clause-room : goal.returns-then-index-known-clause-room
returns-then-index-known-clause-room c = omega arith

pub returns-then-index-known-clause-counts : goal.returns-then-index-known-clause-counts
returns-then-index-known-clause-counts c = search rules
