use Rattle.std.proofs.Common.{◌≡◌, true, get_or, sym, ◌∙◌, arith}
use Rattle.std.proofs.lemmas.List.Sums.{prefix_len-drop_yes}
use Rattle.fl_lex.specs.Words.{is_digit}
use Rattle.fl_value.proofs.Scan.{digit_more}
use Rattle.fl_value.proofs.tokens.short_digits.Goals as goal

pub loop-count-preserved : goal.loop-count-preserved
loop-count-preserved c =
    let i = c.loop-count.invariant in
    let bytes = c.args.bytes.now in
    let digit : is_digit (get_or bytes c.loop-count.count 0) ≡ true = sym c.is_digit.ensures.exact ∙ c.if-not-is_digit.false in
    let more = prefix_len-drop_yes is_digit bytes c.loop-count.count 0 c.loop-count-test.true digit in
    record {
      value = λ few.
          let before = i.value (omega (arith, few)) in
          let m = digit_more bytes c.loop-count.count c.loop-count.value c.loop-count-test.true digit before.0 before.1 in
          let room = m.room (omega (arith, few)) in
          let most = m.most in
          let value = m.value_is in
          let small = m.small in
          (omega (arith, room, most, value, c.from.ensures), omega (arith, room, most, small, c.from.ensures));
      within = omega (arith, c.loop-count-test.true);
      same = omega (arith, more, i.same);
    }
