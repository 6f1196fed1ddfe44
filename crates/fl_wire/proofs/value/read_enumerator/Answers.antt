use Rattle.std.proofs.Common.{◌≡◌, inl, inr, false, refl, rules, arith, subst, sym, ◌∙◌, ap}
use Rattle.std.proofs.lemmas.Result.{err_from_is_err_and}
use Rattle.fl_interface.specs.Interface.{enumeration}
use Rattle.fl_value_data.specs.Value.{Datum, number, datum_of}
use Rattle.fl_wire.specs.Shapes.{nothing, number_below, values_of, ReadAt}
use Rattle.fl_wire.specs.declared.leaf.CallReadFault.TheVariants.{Value}
use Rattle.fl_wire.proofs.Steps.{first_stop, begin_wrong}
use Rattle.fl_wire.proofs.Sites.{below_read, below_stop}
use Rattle.fl_wire.proofs.Parts.{enumerator_join, begins_enumerator, whole_read}
use Rattle.fl_wire.proofs.value.read_enumerator.Goals as goal

pub returns-in_err-raw-clause-stop : goal.returns-in_err-raw-clause-stop
returns-in_err-raw-clause-stop c =
    let p = err_from_is_err_and c.from_residual.result c.from_residual.ensures.1 in
    let n = c.args.count in
    rw (p.1, p.2) (first_stop (values_of (enumeration n)) (number_below 4 n) (λ b. nothing) c.args.frags.now c.args.at enumerator_join c.in_err-raw.field-0.0 (begins_enumerator n)
    (c.in_err-raw.ensures.stop false n (omega (arith, c.ranges.count.fits))))

pub returns-then-raw-from-clause-stop : goal.returns-then-raw-from-clause-stop
returns-then-raw-from-clause-stop c = λ low here agree.
    let n = c.args.count in
    begin_wrong Value (values_of (enumeration n)) (number_below 4 n) (λ b. nothing) c.args.frags.now low enumerator_join (begins_enumerator n low)
    (below_stop false 4 n (inr (inr (inl refl))) c.args.frags.now c.args.at c.in_ok-raw.raw c.in_ok-raw.end (omega (arith, c.if-raw-from.true, c.from.ensures)) (omega (arith, c.ranges.count.fits))
    c.in_ok-raw.ensures.within c.in_ok-raw.ensures.read low here agree)

pub returns-clause-read : goal.returns-clause-read
returns-clause-read c =
    let n = c.args.count in
    let value : datum_of c.int_value.result ≡ number c.from-2.result = search rules in
    subst (λ (d : Datum). ReadAt (values_of (enumeration n)) c.args.frags.now c.args.at d c.in_ok-raw.end) (sym (value ∙ ap number c.from-2.ensures))
    (whole_read (values_of (enumeration n)) (number_below 4 n) c.args.frags.now c.args.at c.in_ok-raw.end enumerator_join c.in_ok-raw.raw (begins_enumerator n)
    (omega (arith, c.in_ok-raw.ensures.later)) c.in_ok-raw.ensures.within
    (below_read false 4 n c.args.frags.now c.args.at c.in_ok-raw.raw c.in_ok-raw.end (omega (arith, c.if-raw-from.false, c.from.ensures)) (omega (arith, c.ranges.count.fits)) c.in_ok-raw.ensures.read))
