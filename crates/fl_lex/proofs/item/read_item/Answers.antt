use Rattle.std.proofs.Common.{sym}
use Rattle.fl_lex.proofs.Cuts.{mark_cuts, blank_cuts}
use Rattle.fl_lex.proofs.item.read_item.Goals as goal

pub returns-in-Blank : goal.returns-in-Blank
returns-in-Blank c = record { found = blank_cuts _ c.requires (sym c.in-Blank.ensures.class) }

pub returns-in-Mark : goal.returns-in-Mark
returns-in-Mark c = record { found = mark_cuts _ _ c.requires (sym c.in-Mark.ensures.class) }
