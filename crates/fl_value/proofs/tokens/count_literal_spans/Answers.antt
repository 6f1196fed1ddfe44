use Rattle.std.proofs.Common.{◌≡◌, ◌≤◌, ◌+◌, ◌-◌, ℕ, length, take, drop, true, arith, refl, sym, subst, ◌∙◌}
use Rattle.std.specs.List.{list_all}
use Rattle.fl_value.specs.CallText.{is_literal}
use Rattle.fl_value.proofs.Spans.{span_passed}
use Rattle.fl_value.proofs.tokens.count_literal_spans.Goals as goal

pub loop-count-preserved : goal.loop-count-preserved
loop-count-preserved c =
    let bytes = c.args.bytes.now in
    let n = c.loop-count.count in
    let few : n + 64 ≤ length bytes = omega (arith, c.loop-count-test.true) in
    let wide : n + 64 - n ≡ 64 = omega arith in
    let all : list_all is_literal (take 64 (drop n bytes)) ≡ true
    = subst (λ (m : ℕ). list_all is_literal (take m (drop n bytes)) ≡ true) wide (sym c.are_literal.ensures.same ∙ c.if-not-are_literal.false) in
    (span_passed is_literal bytes n 64 (n + 64) all refl few c.loop-count.invariant.0, few)
