use Rattle.fl_world_refines.proofs.Boxes.{sends_first}
use Rattle.fl_world_refines.proofs.law_cores.law_outboxes_are_shown.Goals as goal

pub returns : goal.returns
returns c = record { first = sends_first c.law_messages_are_said.ensures.said }
