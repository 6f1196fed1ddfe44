use Rattle.fl_world_laws.proofs.BootedStates.{openings_ever_in_order}
use Rattle.fl_world_laws.proofs.law_openings_ever_go_in_order.Goals as goal

pub returns : goal.returns
returns c = record { order = openings_ever_in_order }
