use Rattle.std.proofs.Common.{rules, arith}
use Rattle.fl_ring.proofs.SharedMakes.{opens}
use Rattle.fl_ring.proofs.shared.making.ring.Goals as goal

pub of_words-requires : goal.of_words-requires
of_words-requires c = opens c.args.size _ (omega arith) (search rules)

pub returns-in_default-clause-bad_size : goal.returns-in_default-clause-bad_size
returns-in_default-clause-bad_size c = search rules

pub returns-in_default-of_words-clause-bad_size : goal.returns-in_default-of_words-clause-bad_size
returns-in_default-of_words-clause-bad_size c = search rules

pub returns-clause-sized : goal.returns-clause-sized
returns-clause-sized c = search rules

pub returns-clause-bad_size : goal.returns-clause-bad_size
returns-clause-bad_size c = search rules
