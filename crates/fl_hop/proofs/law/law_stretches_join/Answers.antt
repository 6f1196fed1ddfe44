use Rattle.fl_hop.proofs.Laws.{one_step, joins, stood_finish, stood_start, stood_on, stood_before}
use Rattle.fl_hop.proofs.law.law_stretches_join.Goals as goal

pub returns : goal.returns
returns c = record {
  one = one_step;
  joins = joins;
  there = λ s l n b way all. (stood_finish s l n b way all, stood_start s l n b way all);
  stood = λ s r l n b way e. (stood_on s r l n b way e, stood_before s r l n b way e);
}
