use Rattle.fl_world_refines.proofs.Leaving.{next_is_written}
use Rattle.fl_world_refines.proofs.law_states.law_next_is_written.Goals as goal

pub returns : goal.returns
returns c = record { stands = next_is_written }
