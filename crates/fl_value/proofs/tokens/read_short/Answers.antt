use Rattle.std.proofs.Common.{pos, refl, arith}
use Rattle.fl_value.proofs.Reading.{counted_at, digits_found}
use Rattle.fl_value.proofs.tokens.read_short.Goals as goal

pub returns : goal.returns
returns c =
    let start = c.skip_blanks-start.result.now in
    let value = c.short_digits-value.result.0 in
    let few = c.if-count-gt19.false in
    record {
      found = digits_found c.args.bytes.now start _ value (pos value) c.skip_blanks-start.ensures.blank
          (counted_at start c.short_digits-value.result.1 value c.short_digits-value.ensures.all c.if-count-eq0.false (omega (arith, few)) (c.short_digits-value.ensures.value (omega (arith, few))))
          refl;
    }
