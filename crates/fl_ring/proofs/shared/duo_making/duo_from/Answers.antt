use Rattle.std.proofs.Common.{rules, arith}
use Rattle.fl_ring.proofs.SharedDuoMakes.{duo_opens}
use Rattle.fl_ring.proofs.shared.duo_making.duo_from.Goals as goal

pub of_words-requires : goal.of_words-requires
of_words-requires c = duo_opens c.args.size c.args.start _ (omega arith) (omega arith) c.requires.start (search rules) (search rules) (search rules)

pub returns-then-size-lt4-clause-bad_size : goal.returns-then-size-lt4-clause-bad_size
returns-then-size-lt4-clause-bad_size c = search rules
