use Rattle.fl_hop.proofs.Answering.{numbers_apart, zero_free}
use Rattle.fl_hop.proofs.Counting.{never_next, never_due, next_is, due_is}
use Rattle.fl_hop.proofs.law.law_numbers_apart.Goals as goal

pub returns : goal.returns
returns c = record {
  apart = numbers_apart;
  zero = zero_free;
  own = λ t sound l n e. never_next t.core t.links sound.apart l n (next_is t.core t.links l n e);
  due = λ t sound l n e. never_due t.core t.links sound.apart l n (due_is t.core t.links l n e);
}
