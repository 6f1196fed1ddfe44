use Rattle.std.proofs.Common.{arith, get_or}
use Rattle.fl_script_lines.proofs.WordLemmas.{ten_more, digit_is}
use Rattle.fl_script_lines.proofs.word.number.Goals as goal

pub overflow_mul-value : goal.overflow_mul-value
overflow_mul-value c =
    let h = ten_more c.loop-digit.digit-index c.loop-digit.value (omega arith) c.loop-digit.invariant.2 in omega (arith, h)

pub overflow_add-value : goal.overflow_add-value
overflow_add-value c =
    let h = ten_more c.loop-digit.digit-index c.loop-digit.value (omega arith) c.loop-digit.invariant.2 in
    let d = digit_is (get_or c.args.word.now c.loop-digit.digit-index 0) c.is_digit.result c.is_digit.ensures.exact c.if-not-is_digit.false in
    omega (arith, h, d.most, c.from.ensures)
