use Rattle.fl_core_turned.specs.Turned.{shared_ways}
use Rattle.fl_history_sides.specs.Ways.{history_ways}
use Rattle.fl_history_joined.proofs.Telling.{turns_are_in_turn}
use Rattle.fl_history_joined.proofs.law.law_turns_are_in_turn.Goals as goal

pub returns : goal.returns
returns c = record { history = turns_are_in_turn history_ways; shared = turns_are_in_turn shared_ways }
