use Rattle.std.proofs.Common.{refl}
use Rattle.fl_lex.proofs.Cuts.{word_cuts, word_too_long}
use Rattle.fl_lex.proofs.item.read_word.Goals as goal

pub returns-then-length-gt-MAX_WORD : goal.returns-then-length-gt-MAX_WORD
returns-then-length-gt-MAX_WORD c = record { found = (refl, word_too_long _ _ c.requires c.count_word_bytes-length.ensures.exact c.if-length-gt-MAX_WORD.true) }

pub returns : goal.returns
returns c = record { found = word_cuts _ _ c.requires c.count_word_bytes-length.ensures.exact c.if-length-gt-MAX_WORD.false }
