use Rattle.std.proofs.Common.{sym}
use Rattle.std.proofs.lemmas.Bool.{false≢true}
use Rattle.fl_machine.proofs.cursor.SendCursor.advance.Goals as goal

pub returns-in-Emit : goal.returns-in-Emit
returns-in-Emit c = record { goes = λ _. c.emit.ensures; stays = λ e. absurd (false≢true (sym e)); ended = λ e. absurd (false≢true (sym e)) }

pub returns-in-Pad : goal.returns-in-Pad
returns-in-Pad c = record { goes = λ _. c.pad.ensures; stays = λ e. absurd (false≢true (sym e)); ended = λ e. absurd (false≢true (sym e)) }

pub returns-in-Align : goal.returns-in-Align
returns-in-Align c = record { goes = λ _. c.align.ensures; stays = λ e. absurd (false≢true (sym e)); ended = λ e. absurd (false≢true (sym e)) }

pub returns-in-Times : goal.returns-in-Times
returns-in-Times c = record { goes = λ _. c.repeat.ensures; stays = λ e. absurd (false≢true (sym e)); ended = λ e. absurd (false≢true (sym e)) }

pub returns-in-Length : goal.returns-in-Length
returns-in-Length c = record { goes = λ _. c.count.ensures; stays = λ e. absurd (false≢true (sym e)); ended = λ e. absurd (false≢true (sym e)) }

pub returns-in-Back : goal.returns-in-Back
returns-in-Back c = record { goes = λ _. c.turn.ensures; stays = λ e. absurd (false≢true (sym e)); ended = λ e. absurd (false≢true (sym e)) }
