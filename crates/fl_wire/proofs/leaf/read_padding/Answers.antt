use Rattle.std.proofs.Common.{sym, subst}
use Rattle.std.proofs.lemmas.Result.{err_from_is_err_and}
use Rattle.fl_wire.specs.Shapes.{Stops, padding}
use Rattle.fl_wire.specs.declared.leaf.CallReadFault.{CallReadFault}
use Rattle.fl_wire.proofs.Sites.{padding_got, padding_wrong}
use Rattle.fl_wire.proofs.leaf.read_padding.Goals as goal

pub returns-in_err-place-clause-stop : goal.returns-in_err-place-clause-stop
returns-in_err-place-clause-stop c =
    let p = err_from_is_err_and c.from_residual.result c.from_residual.ensures.1 in
    let (is, w) = c.in_err-place.ensures.wrong in
    rw (p.1, p.2) (λ low at agree. subst (λ (stop : CallReadFault). Stops stop (padding c.args.align) c.args.frags.now low) (sym is)
    (padding_wrong c.args.align c.requires.align c.args.frags.now low c.args.at w.p at agree c.requires.within w.after w.before w.nonzero w.zeros))

pub returns-clause-read : goal.returns-clause-read
returns-clause-read c = λ low at agree.
    padding_got c.args.align c.args.frags.now low c.args.at c.in_ok-place.place at agree c.in_ok-place.ensures.zeros c.in_ok-place.ensures.place
