use Rattle.std.proofs.Common.{◌+◌, ℕ, length, arith, ap, ◌∙◌}
use Rattle.std.proofs.lemmas.List.{length-drop}
use Rattle.std.specs.List.{prefix_len}
use Rattle.fl_value.specs.CallText.{is_literal}
use Rattle.fl_value.proofs.Spans.{left_of_slice}
use Rattle.fl_value.proofs.tokens.count_literal.Goals as goal

pub returns : goal.returns
returns c =
    let bytes = c.args.bytes.now in
    let n = c.count_literal_spans-start.result in
    let left = left_of_slice bytes n in
    record {
      same = ap (λ (m : ℕ). n + m) (c.count_literal_bytes.ensures.same ∙ ap (prefix_len is_literal) left) ∙ c.count_literal_spans-start.ensures.literal;
      within = omega (arith, c.count_literal_bytes.ensures.within, ap length left, length-drop n bytes, c.count_literal_spans-start.ensures.within);
    }
