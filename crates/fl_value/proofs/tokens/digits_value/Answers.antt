use Rattle.std.proofs.Common.{◌≡◌, length, take, arith}
use Rattle.std.proofs.lemmas.List.{length-take-le}
use Rattle.fl_value.proofs.Scan.{all_digits, digits_prefix, small_value, room, digit_step}
use Rattle.fl_value.proofs.tokens.digits_value.Goals as goal

pub overflow_mul-value : goal.overflow_mul-value
overflow_mul-value c =
    let digits = c.args.digits.now in
    let small = room digits c.loop-digit.digit-index c.loop-digit.value (all_digits digits c.requires.digits) c.requires.few c.loop-digit-test.true c.loop-digit.invariant in
    omega (arith, small)

pub overflow_add-value : goal.overflow_add-value
overflow_add-value c =
    let digits = c.args.digits.now in
    let small = room digits c.loop-digit.digit-index c.loop-digit.value (all_digits digits c.requires.digits) c.requires.few c.loop-digit-test.true c.loop-digit.invariant in
    omega (arith, small, c.type_inv.digits c.loop-digit.digit-index, c.from.ensures)

pub loop-digit-preserved : goal.loop-digit-preserved
loop-digit-preserved c =
    let digits = c.args.digits.now in
    digit_step digits c.loop-digit.digit-index c.loop-digit.value c.from.result (all_digits digits c.requires.digits) c.loop-digit-test.true c.loop-digit.invariant c.from.ensures

pub returns-clause-small : goal.returns-clause-small
returns-clause-small c =
    let digits = c.args.digits.now in
    let i = c.loop-digit.digit-index in
    let end : i ≡ length digits = omega arith in
    let all = digits_prefix digits i (all_digits digits c.requires.digits) in
    let small = small_value (take i digits) 20 all (omega (arith, end, length-take-le i digits, c.requires.few)) in
    omega (arith, small, c.loop-digit.invariant)
