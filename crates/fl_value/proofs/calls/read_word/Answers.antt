use Rattle.std.proofs.Common.{◌∙◌, sym, arith}
use Rattle.fl_value.proofs.Words.{too_long, word_counted, word_rest}
use Rattle.fl_value.proofs.calls.read_word.Goals as goal

pub returns-then-count-gt-MAX_WORD-clause-none : goal.returns-then-count-gt-MAX_WORD-clause-none
returns-then-count-gt-MAX_WORD-clause-none c = too_long c.args.bytes.now c.count_word_bytes-count.result c.count_word_bytes-count.ensures.exact (omega (arith, c.if-count-gt-MAX_WORD.true))

pub returns-clause-word : goal.returns-clause-word
returns-clause-word c = word_counted c.args.bytes.now c.count_word_bytes-count.result c.in-len1-up.len_at_least (sym c.is_letter.ensures.exact ∙ c.if-not-is_letter.false) c.count_word_bytes-count.ensures.exact (omega (arith, c.if-count-gt-MAX_WORD.false))

pub returns-clause-stops : goal.returns-clause-stops
returns-clause-stops c = word_rest c.args.bytes.now c.count_word_bytes-count.result c.count_word_bytes-count.ensures.exact
