use Rattle.std.proofs.Common.{refl}
use Rattle.fl_lex.proofs.Cuts.{number_all, number_cuts, number_too_large}
use Rattle.fl_lex.proofs.item.read_number.Goals as goal

pub value_of-requires : goal.value_of-requires
value_of-requires c = number_all _ _ c.count_digits-length.ensures.exact

pub returns-in-Some : goal.returns-in-Some
returns-in-Some c = record { found = number_cuts _ _ _ c.requires c.count_digits-length.ensures.exact c.in-Some.ensures.value }

pub returns-in-None : goal.returns-in-None
returns-in-None c = record { found = (refl, number_too_large _ _ c.requires c.count_digits-length.ensures.exact c.in-None.ensures.value) }
