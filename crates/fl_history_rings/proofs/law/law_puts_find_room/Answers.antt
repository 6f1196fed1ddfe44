use Rattle.fl_history_rings.proofs.Laws.{puts_room}
use Rattle.fl_history_rings.proofs.law.law_puts_find_room.Goals as goal

pub returns : goal.returns
returns c = record { room = puts_room }
