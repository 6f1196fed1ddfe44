use Rattle.std.proofs.Common.{arith, ◌+◌, inr, refl, true}
use Rattle.std.proofs.lemmas.Result.{err_from_is_err_and}
use Rattle.fl_wire.proofs.Sites.{below_read, below_stop}
use Rattle.fl_wire.proofs.value.read_length.Goals as goal

pub returns-then-length-from-clause-stop : goal.returns-then-length-from-clause-stop
returns-then-length-from-clause-stop c =
    below_stop true 8 (c.args.most + 1) (inr (inr (inr refl))) c.args.frags.now c.args.at c.in_ok-length.length c.in_ok-length.end (omega (arith, c.if-length-from.true, c.from.ensures)) (omega (arith, c.ranges.most.fits))
    c.in_ok-length.ensures.within c.in_ok-length.ensures.read

pub returns-clause-read : goal.returns-clause-read
returns-clause-read c =
    below_read true 8 (c.args.most + 1) c.args.frags.now c.args.at c.in_ok-length.length c.in_ok-length.end (omega (arith, c.if-length-from.false, c.from.ensures)) (omega (arith, c.ranges.most.fits)) c.in_ok-length.ensures.read

pub returns-in_err-length-clause-stop : goal.returns-in_err-length-clause-stop
returns-in_err-length-clause-stop c =
    let p = err_from_is_err_and c.from_residual.result c.from_residual.ensures.1 in
    rw (p.1, p.2) (c.in_err-length.ensures.stop true (c.args.most + 1) (omega (arith, c.ranges.most.fits)))
