use Rattle.fl_world_refines.proofs.Small.{small_numbers}
use Rattle.fl_world_refines.proofs.law_states.law_numbers_are_small.Goals as goal

pub returns : goal.returns
returns c = record { small = small_numbers }
