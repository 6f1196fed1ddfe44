use Rattle.fl_world_refines.proofs.Turns.{first_in_turn}
use Rattle.fl_world_refines.proofs.law_states.law_first_is_in_turn.Goals as goal

pub returns : goal.returns
returns c = record { turn = first_in_turn }
