use Rattle.std.proofs.Common.{ℕ, ◌+◌, arith, sym, subst, ap, ◌∙◌}
use Rattle.std.proofs.lemmas.Result.{err_from_is_err_and}
use Rattle.fl_wire.specs.Shapes.{Stops, number_in}
use Rattle.fl_wire.specs.declared.leaf.CallReadFault.{CallReadFault}
use Rattle.fl_wire.specs.Standing.{byte_in}
use Rattle.fl_wire.proofs.Numbers.{from_low}
use Rattle.fl_wire.proofs.Sites.{number_got, number_padding, number_short}
use Rattle.fl_wire.proofs.leaf.read_number.Goals as goal

pub returns-in_err-place-clause-stop : goal.returns-in_err-place-clause-stop
returns-in_err-place-clause-stop c =
    let p = err_from_is_err_and c.from_residual.result c.from_residual.ensures.1 in
    let (is, w) = c.in_err-place.ensures.wrong in
    rw (p.1, p.2) (λ of_length bound room low at agree. subst (λ (stop : CallReadFault). Stops stop (number_in of_length c.args.width bound) c.args.frags.now low) (sym is)
    (number_padding of_length c.args.width bound c.requires.width c.args.frags.now low c.args.at w.p at agree c.requires.within w.after w.before w.nonzero w.zeros))

pub returns-then-end-frags-clause-stop : goal.returns-then-end-frags-clause-stop
returns-then-end-frags-clause-stop c = λ of_length bound room low at agree.
    let place = c.in_ok-place.ensures.place in
    number_short of_length c.args.width bound c.requires.width c.args.frags.now low c.args.at at agree (omega (arith, c.if-end-frags.true, place))
    (λ q after before. c.in_ok-place.ensures.zeros q after (omega (arith, before, place)))

pub returns-clause-read : goal.returns-clause-read
returns-clause-read c = λ low at agree.
    let place = c.in_ok-place.ensures.place in
    let w = c.args.width in
    let frags = c.args.frags.now in
    number_got w c.requires.width frags low c.args.at c.number_at.result (c.in_ok-place.place + w) at agree
    (λ p after before. c.in_ok-place.ensures.zeros p after (omega (arith, before, place)))
    (c.number_at.ensures.number ∙ ap (λ (p : ℕ). from_low w (λ j. byte_in frags (p + j))) place)
    (ap (λ (p : ℕ). p + w) place)
