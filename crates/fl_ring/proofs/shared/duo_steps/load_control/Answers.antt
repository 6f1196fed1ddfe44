use Rattle.std.proofs.Common.{◌+◌, ap, length, arith, ℕ}
use Rattle.fl_ring.proofs.SharedDuoSteps.{duo_other_in, duo_allows_control}
use Rattle.fl_ring.proofs.shared.duo_steps.load_control.Goals as goal

pub load-control-requires : goal.load-control-requires
load-control-requires c =
    let seated = c.requires.seated in
    let m0 = c.args.seat.now.me in (
      seated.same,
      omega (arith, c.requires.first, duo_other_in m0.0.holder m0.0.size (length m0.0.mine.take.got) 7 _ seated.side seated.some (omega arith) seated.wide),
      duo_allows_control _ _ _ _ _ m0 seated.key_is seated.side (ap (λ (k : ℕ). k + 7) c.requires.first),
    )
