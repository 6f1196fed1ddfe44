use Rattle.fl_lex.proofs.Cuts.{digit_at, one_more_digit, large_so_far}
use Rattle.fl_lex.proofs.item.value_of.Goals as goal

pub overflow_sub-digit : goal.overflow_sub-digit
overflow_sub-digit c = (digit_at _ _ c.loop-digit-test.true c.requires).0

pub returns-then-value-gt-MAX_NUMBER : goal.returns-then-value-gt-MAX_NUMBER
returns-then-value-gt-MAX_NUMBER c = record {
  value = large_so_far _ _ _ _ c.if-value-gt-MAX_NUMBER.true (one_more_digit _ _ _ _ _ c.loop-digit-test.true c.from.ensures c.loop-digit.invariant.whole);
}

pub loop-digit-preserved : goal.loop-digit-preserved
loop-digit-preserved c = record {
  small = c.if-value-gt-MAX_NUMBER.false;
  whole = one_more_digit _ _ _ _ _ c.loop-digit-test.true c.from.ensures c.loop-digit.invariant.whole;
}
