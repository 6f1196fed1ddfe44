use Rattle.std.proofs.Common.{arith, sym, ◌∙◌, ap}
use Rattle.fl_script_lines.specs.Words.{to_blank, from_blank}
use Rattle.fl_script_lines.proofs.WordLemmas.{word_at, word_rest}
use Rattle.fl_script_lines.proofs.word.next_word.Goals as goal

pub returns-then-is_blank-clause-word : goal.returns-then-is_blank-clause-word
returns-then-is_blank-clause-word c =
    let at = word_at c.loop-i.i c.skip_blanks-start.result.now (omega arith) c.loop-i.invariant (sym c.is_blank.ensures.same ∙ c.if-is_blank.true) in
    rw (c.split_at.ensures.front, ← c.skip_blanks-start.ensures.rest) (sym at.0)

pub returns-then-is_blank-clause-behind : goal.returns-then-is_blank-clause-behind
returns-then-is_blank-clause-behind c =
    let at = word_at c.loop-i.i c.skip_blanks-start.result.now (omega arith) c.loop-i.invariant (sym c.is_blank.ensures.same ∙ c.if-is_blank.true) in
    rw (c.split_at.ensures.back, ← c.skip_blanks-start.ensures.rest) (sym at.1)

pub returns-clause-word : goal.returns-clause-word
returns-clause-word c =
    (word_rest c.skip_blanks-start.result.now c.split_at-2.result.0.now c.split_at-2.result.1.now c.split_at-2.ensures.front c.split_at-2.ensures.back
    (λ k below. c.loop-i.invariant k (omega arith))).0
    ∙ ap to_blank c.skip_blanks-start.ensures.rest

pub returns-clause-behind : goal.returns-clause-behind
returns-clause-behind c =
    (word_rest c.skip_blanks-start.result.now c.split_at-2.result.0.now c.split_at-2.result.1.now c.split_at-2.ensures.front c.split_at-2.ensures.back
    (λ k below. c.loop-i.invariant k (omega arith))).1
    ∙ ap from_blank c.skip_blanks-start.ensures.rest
