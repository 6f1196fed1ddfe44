use Rattle.std.proofs.Common.{arith}
use Rattle.fl_world.proofs.Makes.{few_fresh}
use Rattle.fl_world.proofs.Kept.{on_any}
use Rattle.fl_world.proofs.Last.{cores_last}
use Rattle.fl_world.proofs.world.World.set_cores.Goals as goal

pub invariant_of-self-2 : goal.invariant_of-self-2
invariant_of-self-2 c = few_fresh c.args.n _ c.in_ok-renew_cores.ensures.fresh (omega (arith, c.if-n-gt-MAX_CORES.false))

pub returns-in_err-renew_cores-clause-last : goal.returns-in_err-renew_cores-clause-last
returns-in_err-renew_cores-clause-last c = on_any _ c.from_residual.result (cores_last c.args.n c.args.self.now _ c.self.view_is c.if-not-self.false c.if-n-lt1.false
    (omega (arith, c.if-n-gt-MAX_CORES.false)))
