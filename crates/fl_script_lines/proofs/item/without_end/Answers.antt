use Rattle.std.proofs.Common.{◌∙◌, ◌++◌, ap, List, ℕ}
use Rattle.fl_script_lines.proofs.LineEnds.{found_suffix, no_suffix, no_return, with_return, with_feed}
use Rattle.fl_script_lines.proofs.item.without_end.Goals as goal

pub returns-in-Some : goal.returns-in-Some
returns-in-Some c = record {
  text =
      with_return c.args.line.now c.in-Some.text.now
      (found_suffix c.args.line.now c.as_slice.result.now c.in-Some.text c.in-Some.ensures.cases ∙ ap (λ (p : List ℕ). c.in-Some.text.now ++ p) c.as_slice.ensures);
}

pub returns-in-Some-strip_suffix : goal.returns-in-Some-strip_suffix
returns-in-Some-strip_suffix c = record {
  text =
      with_feed c.args.line.now c.in-Some-strip_suffix.text.now
      (no_return c.args.line.now c.as_slice.result.now c.as_slice.ensures (no_suffix c.args.line.now c.as_slice.result.now c.in_default.ensures.cases))
      (found_suffix c.args.line.now c.as_slice-2.result.now c.in-Some-strip_suffix.text c.in-Some-strip_suffix.ensures.cases
      ∙ ap (λ (p : List ℕ). c.in-Some-strip_suffix.text.now ++ p) c.as_slice-2.ensures);
}
