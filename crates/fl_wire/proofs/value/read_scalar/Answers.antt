use Rattle.std.proofs.Common.{◌≡◌, ℕ, false, ◌*◌, ◌^◌, ◌≤◌, rules, arith, subst, sym, ap, ◌∙◌}
use Rattle.std.proofs.lemmas.Result.{err_from_is_err_and}
use Rattle.fl_interface.specs.Interface.{scalar}
use Rattle.fl_interface.specs.Sizes.{scalar_size}
use Rattle.fl_value_data.specs.Value.{Datum, number, datum_of}
use Rattle.fl_wire.specs.Shapes.{nothing, number_below, values_of, ReadAt, StopsAt}
use Rattle.fl_wire.specs.declared.leaf.CallReadFault.TheVariants.{Value}
use Rattle.fl_wire.proofs.Arguments.{scalar_align}
use Rattle.fl_wire.proofs.Agreement.{scalar_room}
use Rattle.fl_wire.proofs.Steps.{first_stop, begin_wrong}
use Rattle.fl_wire.proofs.Sites.{below_read, below_stop}
use Rattle.fl_wire.proofs.Parts.{scalar_numbers, scalar_join, begins_scalar, whole_read}
use Rattle.fl_wire.proofs.value.read_scalar.Goals as goal

pub returns-in_err-raw-clause-stop : goal.returns-in_err-raw-clause-stop
returns-in_err-raw-clause-stop c =
    let p = err_from_is_err_and c.from_residual.result c.from_residual.ensures.1 in
    let s = c.args.kind in
    let w = c.size.ensures.exact in
    let stops = c.in_err-raw.ensures.stop false (scalar_numbers s) (subst (λ (v : ℕ). scalar_numbers s ≤ 2 ^ (8 * v)) (sym w) (scalar_room s)) in
    rw (p.1, p.2) (first_stop (values_of (scalar s)) (number_below (scalar_size s) (scalar_numbers s)) (λ b. nothing) c.args.frags.now c.args.at (scalar_join s) c.in_err-raw.field-0.0 (begins_scalar s)
    (subst (λ (v : ℕ). StopsAt c.in_err-raw.field-0.0 (number_below v (scalar_numbers s)) c.args.frags.now c.args.at) w stops))

pub returns-then-raw-greatest_bits-clause-stop : goal.returns-then-raw-greatest_bits-clause-stop
returns-then-raw-greatest_bits-clause-stop c = λ low here agree.
    let s = c.args.kind in
    let read = subst (λ (v : ℕ). ReadAt (number_below v (2 ^ (8 * v))) c.args.frags.now c.args.at c.in_ok-raw.raw c.in_ok-raw.end) c.size.ensures.exact c.in_ok-raw.ensures.read in
    begin_wrong Value (values_of (scalar s)) (number_below (scalar_size s) (scalar_numbers s)) (λ b. nothing) c.args.frags.now low (scalar_join s) (begins_scalar s low)
    (below_stop false (scalar_size s) (scalar_numbers s) (scalar_align s) c.args.frags.now c.args.at c.in_ok-raw.raw c.in_ok-raw.end (omega (arith, c.if-raw-greatest_bits.true, c.greatest_bits.ensures.bits)) (scalar_room s)
    c.in_ok-raw.ensures.within read low here agree)

pub returns-clause-read : goal.returns-clause-read
returns-clause-read c =
    let s = c.args.kind in
    let read = subst (λ (v : ℕ). ReadAt (number_below v (2 ^ (8 * v))) c.args.frags.now c.args.at c.in_ok-raw.raw c.in_ok-raw.end) c.size.ensures.exact c.in_ok-raw.ensures.read in
    let value : datum_of c.int_value.result ≡ number c.number_from.result = search rules in
    subst (λ (d : Datum). ReadAt (values_of (scalar s)) c.args.frags.now c.args.at d c.in_ok-raw.end) (sym (value ∙ ap number c.number_from.ensures.number))
    (whole_read (values_of (scalar s)) (number_below (scalar_size s) (scalar_numbers s)) c.args.frags.now c.args.at c.in_ok-raw.end (scalar_join s) c.in_ok-raw.raw (begins_scalar s)
    (omega (arith, c.in_ok-raw.ensures.later)) c.in_ok-raw.ensures.within
    (below_read false (scalar_size s) (scalar_numbers s) c.args.frags.now c.args.at c.in_ok-raw.raw c.in_ok-raw.end (omega (arith, c.if-raw-greatest_bits.false, c.greatest_bits.ensures.bits)) (scalar_room s) read))
