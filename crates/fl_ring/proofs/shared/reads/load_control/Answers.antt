use Rattle.std.proofs.Common.{◌+◌, ap, length, arith, ℕ}
use Rattle.fl_ring.proofs.SharedSteps.{word_in, allows_control}
use Rattle.fl_ring.proofs.shared.reads.load_control.Goals as goal

pub load-control-requires : goal.load-control-requires
load-control-requires c =
    let seated = c.requires.seated in
    let m0 = c.args.seat.now.me in (
      seated.same,
      omega (arith, c.requires.first, word_in m0.0.size (length m0.0.take.got) 7 _ seated.some (omega arith) seated.wide),
      allows_control _ _ _ _ m0 seated.key_is c.requires.reads (ap (λ (k : ℕ). k + 7) c.requires.first),
    )
